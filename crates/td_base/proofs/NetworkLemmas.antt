-- The doors that a network in memory has: each tells its content and was not asked yet.
use Rattle.std.proofs.Common.{◌≡◌, ℕ, List, [], ◌∷◌, take, map, Some, refl, sym, ◌∙◌, ap}
use Rattle.std.proofs.lemmas.List.{take-map}
use Rattle.std.proofs.lemmas.List.Elements.{All-head, All-tail, All-take}
use Rattle.std.specs.Prelude.{All}
use Rattle.td_base.specs.DoorViews.{DoorView}
use Rattle.td_base.specs.Doors.{new_content}
use Rattle.td_base.specs.MemoryNetworks.{TellsNew, coming_in}

module _ {D : Type 0} (seen : D → DoorView) where
  tell_all : (ds : List D) → All (λ d. TellsNew (seen d)) ds
      → map (λ d. (seen d).content) ds ≡ map (λ inputs. Some (new_content inputs)) (map (λ d. coming_in (seen d).content) ds)
  tell_all [] h = refl
  tell_all (d ∷ ds) h =
      let rest = tell_all ds (All-tail (λ e. TellsNew (seen e)) d ds h) in
      ap (λ c. c ∷ map (λ e. (seen e).content) ds) (All-head (λ e. TellsNew (seen e)) d ds h).content
      ∙ ap (λ cs. Some (new_content (coming_in (seen d).content)) ∷ cs) rest

  -- what the first doors tell is what the network told of them
  pub first_tell : (n : ℕ) (ds : List D) → All (λ d. TellsNew (seen d)) ds
      → map (λ d. (seen d).content) (take n ds) ≡ map (λ inputs. Some (new_content inputs)) (take n (map (λ d. coming_in (seen d).content) ds))
  first_tell n ds h =
      tell_all (take n ds) (All-take (λ d. TellsNew (seen d)) n ds h)
      ∙ ap (map (λ inputs. Some (new_content inputs))) (sym (take-map (λ d. coming_in (seen d).content) n ds))
