-- The two laws of spelling, at the text that is read.
use Rattle.posix_footer.proofs.FoundWhole.{found_if_ok}
use Rattle.posix_footer.proofs.AgainWhole.{footer_again}
use Rattle.posix_footer.proofs.reading.read.Goals as goal

pub returns-clause-found : goal.returns-clause-found
returns-clause-found c = found_if_ok _ _ (cc (c.footer.ensures.exact, c.new.ensures.size, c.new.ensures.left))

pub returns-clause-only : goal.returns-clause-only
returns-clause-only c = λ footer spells.
    cc (c.footer.ensures.exact, c.new.ensures.size, c.new.ensures.left, footer_again _ footer spells)
