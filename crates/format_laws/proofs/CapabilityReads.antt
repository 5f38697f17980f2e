-- The text of the capabilities reads as the tree.
use Rattle.std.proofs.Common.{◌≡◌, ℕ, List, Bool, true, false, Some, refl, arith, lit<}
use Rattle.serde_json.specs.Read.{read, max_depth}
use Rattle.json.proofs.Printed.Decimals.{IsNumber-decimal}
use Rattle.serde_json.proofs.Numbers.{number_of-decimal}
use Rattle.td_base.specs.declared.report.Role.{Role}
use Rattle.td_base.specs.declared.report.Role.TheVariants.{Primary, Secondary}
use Rattle.json_forms.specs.ListDocument.{strings}
use Rattle.json_forms.specs.CapabilitiesDocument.{action_data, capabilities_action, list_action, get_action, expand_action, find_action, leapseconds_action}
use Rattle.json_forms.specs.CapabilitiesDocument.{info_with, capabilities_data, capabilities_document}
use Rattle.format_laws.proofs.Readable.{IsReadable, read_back}

capabilities_readable : (role : Role) (publisher : List ℕ) (with_leaps : Bool) → IsReadable max_depth (capabilities_data role publisher with_leaps)
unfolding capabilities_data capabilities_action list_action get_action expand_action find_action leapseconds_action info_with action_data strings
capabilities_readable Primary publisher false = record { same = rw (number_of-decimal 1 (lit< tt)) refl; shallow = omega arith; numbers = search (IsNumber-decimal 1 (lit< tt)) }
capabilities_readable Primary publisher true = record { same = rw (number_of-decimal 1 (lit< tt)) refl; shallow = omega arith; numbers = search (IsNumber-decimal 1 (lit< tt)) }
capabilities_readable (Secondary upstream) publisher false = record { same = rw (number_of-decimal 1 (lit< tt)) refl; shallow = omega arith; numbers = search (IsNumber-decimal 1 (lit< tt)) }
capabilities_readable (Secondary upstream) publisher true = record { same = rw (number_of-decimal 1 (lit< tt)) refl; shallow = omega arith; numbers = search (IsNumber-decimal 1 (lit< tt)) }

pub capabilities_read : (role : Role) (publisher : List ℕ) (with_leaps : Bool) → read (capabilities_document role publisher with_leaps)
    ≡ Some (capabilities_data role publisher with_leaps)
unfolding capabilities_document
capabilities_read role publisher with_leaps = read_back (capabilities_data role publisher with_leaps) (capabilities_readable role publisher with_leaps)
