-- The text of the capabilities is exact, and reads as the tree.
use Rattle.std.proofs.Common.{◌≡◌, ℕ, List, Bool, true, false, refl}
use Rattle.serde_json.specs.Written.{has_float}
use Rattle.td_base.specs.declared.report.Role.{Role}
use Rattle.td_base.specs.declared.report.Role.TheVariants.{Primary, Secondary}
use Rattle.json_forms.specs.ListDocument.{strings}
use Rattle.json_forms.specs.CapabilitiesDocument.{action_data, capabilities_action, list_action, get_action, expand_action, find_action, leapseconds_action}
use Rattle.json_forms.specs.CapabilitiesDocument.{info_with, capabilities_data}

pub capabilities_have_no_float : (role : Role) (publisher : List ℕ) (with_leaps : Bool) → has_float (capabilities_data role publisher with_leaps) ≡ false
unfolding capabilities_data capabilities_action list_action get_action expand_action find_action leapseconds_action info_with action_data strings
capabilities_have_no_float Primary publisher false = refl
capabilities_have_no_float Primary publisher true = refl
capabilities_have_no_float (Secondary upstream) publisher false = refl
capabilities_have_no_float (Secondary upstream) publisher true = refl
