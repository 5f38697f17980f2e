-- How a connection over a desk that has seen all is one over the whole history.
use Rattle.std.proofs.Common.{◌≡◌, ℕ, List, [], ◌∷◌, length, sym, subst, ◌∙◌, append-nil}
use Rattle.std.specs.List.{AllByRecursion}
use Rattle.std.proofs.lemmas.List.{length-map}
use Rattle.catalogue.specs.declared.holding.Catalogue.{Catalogue}
use Rattle.connection.specs.Serving.{ServedOver, ServesConn, session_of}
use Rattle.catalogue.specs.Holdings.{history_of}
use Rattle.publication.specs.Views.{DeskView}
use Rattle.td_base.specs.Views.{ConnView}
use Rattle.td_base.specs.declared.report.End.{End}
use Rattle.td_base.specs.declared.report.Role.{Role}

-- each place is the last of the history
pub all_latest : (seen : List (Catalogue (List ℕ))) (places : List ℕ) → AllByRecursion (λ p. p ≡ length seen) places
    → AllByRecursion (λ p. p ≡ length (history_of seen)) places
all_latest seen [] h = tt
all_latest seen (p ∷ ps) h = (h.0 ∙ sym (length-map seen _), all_latest seen ps h.1)

-- over what the desk had seen, where it has seen nothing more
pub served_over : (desk : DeskView (Catalogue (List ℕ))) (seen : List (Catalogue (List ℕ))) (role : Role) (before now : ConnView) (places : List ℕ) (end : End)
    → desk.seen ≡ seen → (h : ServesConn desk role before now places end)
    → ServedOver (history_of seen) role before now (session_of now h.read h.written places) end
served_over desk seen role before now places end same h =
    subst (λ (all : List (Catalogue (List ℕ))). ServedOver (history_of all) role before now (session_of now h.read h.written places) end) same
    (h.served (history_of desk.seen) ([], append-nil (history_of desk.seen)))
