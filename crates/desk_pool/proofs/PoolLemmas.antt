-- Works that were started, and results that were joined, one after the other.
use Rattle.std.proofs.Common.{◌≡◌, ◌+◌, ◌<◌, List, [], ◌∷◌, ◌++◌, length, map, take, refl, sym, ap, subst, ◌∙◌, arith, suc, add-one, append_assoc}
use Rattle.std.proofs.Math.Seq.{take-append_seam}
use Rattle.std.proofs.lemmas.List.{length-append, length-map, map-append}
use Rattle.desk_pool.specs.Pool.{DoesEach}

module _ {W T : Type 0} (work_of : T → W) where
  -- those before the work at which it stops
  pub are_first : (running : List T) (left works : List W) (w : W) (rest : List W) → map work_of running ++ left ≡ works → left ≡ w ∷ rest
      → (length running < length works) × (map work_of running ≡ take (length running) works)
  are_first running left works w rest whole stop =
      let same : length (map work_of running) ≡ length running = length-map running work_of in
      let all : length works ≡ length (map work_of running) + length left = ap length (sym whole) ∙ length-append (map work_of running) left in
      let more : length left ≡ length rest + 1 = ap length stop ∙ sym (add-one (length rest)) in
      let cut : take (length (map work_of running)) works ≡ map work_of running =
      ap (λ ws. take (length (map work_of running)) ws) (sym whole) ∙ take-append_seam (map work_of running) left in (
        omega arith,
        sym (ap (λ n. take n works) (sym same) ∙ cut),
      )

-- what was taken off a list, with one more, and what is left of it
pub takes_more : {T : Type 0} (done left : List T) (t : T) (rest all : List T) → done ++ left ≡ all → left ≡ t ∷ rest → done ++ t ∷ [] ++ rest ≡ all
takes_more done left t rest all whole next = append_assoc done (t ∷ []) rest ∙ ap (λ ts. done ++ ts) (sym next) ∙ whole

module _ {W D : Type 0} (does : W → D → Type 0) where
  -- one more work and its result
  pub does_more : (ws : List W) (ds : List D) (w : W) (d : D) → DoesEach does ws ds → does w d → DoesEach does (ws ++ w ∷ []) (ds ++ d ∷ [])
  does_more [] [] w d h done = (done, tt)
  does_more [] (e ∷ ds) w d h done = absurd h
  does_more (v ∷ ws) [] w d h done = absurd h
  does_more (v ∷ ws) (e ∷ ds) w d h done = (h.0, does_more ws ds w d h.1 done)

  -- as many results as works
  pub as_many : (ws : List W) (ds : List D) → DoesEach does ws ds → length ds ≡ length ws
  as_many [] [] h = refl
  as_many [] (e ∷ ds) h = absurd h
  as_many (v ∷ ws) [] h = absurd h
  as_many (v ∷ ws) (e ∷ ds) h = ap suc (as_many ws ds h.1)

module _ {W T D : Type 0} (work_of : T → W) (does : W → D → Type 0) where
  -- one more of what runs, and what was joined of it
  pub joins_more : (ts : List T) (ds : List D) (t : T) (d : D) → DoesEach does (map work_of ts) ds → does (work_of t) d
      → DoesEach does (map work_of (ts ++ t ∷ [])) (ds ++ d ∷ [])
  joins_more ts ds t d h done =
      subst (λ ws. DoesEach does ws (ds ++ d ∷ [])) (sym (map-append work_of ts (t ∷ [])))
      (does_more does (map work_of ts) ds (work_of t) d h done)

  -- the results of what was started before one was refused
  pub refused_results : (works : List W) (running : List T) (ds : List D) → length running < length works
      → map work_of running ≡ take (length running) works → DoesEach does (map work_of running) ds
      → (length ds < length works) × DoesEach does (take (length ds) works) ds
  refused_results works running ds fewer first h =
      let same : length ds ≡ length running = as_many does (map work_of running) ds h ∙ length-map running work_of in (
        subst (λ n. n < length works) (sym same) fewer,
        subst (λ n. DoesEach does (take n works) ds) (sym same) (subst (λ ws. DoesEach does ws ds) first h),
      )
