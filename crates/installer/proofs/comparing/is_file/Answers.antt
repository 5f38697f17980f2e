use Rattle.std.proofs.Common.{rules}
use Rattle.installer.proofs.Whether.{whether_found}
use Rattle.installer.proofs.comparing.is_file.Goals as goal

pub returns-in-Found : goal.returns-in-Found
returns-in-Found g c = whether_found _ _ _ _ _ _ c.in-Found.ensures.look (search rules)
