-- The transitions of a file are read where they stand in it.
use Rattle.std.proofs.Common.{◌≡◌, ℕ, ◌+◌, ◌-◌, ◌*◌, ◌<◌, ◌≤◌, List, length, take, drop, None, Some, sym, ap, ◌∙◌, arith}
use Rattle.std.specs.Prelude.{slice_get}
use Rattle.std.proofs.Math.Seq.{take-take, drop-drop}
use Rattle.std.proofs.lemmas.List.{drop-take}
use Rattle.std.proofs.lemmas.List.FromFn.{length-map-range_with_len, get_or-map-range_with_len}
use Rattle.std.proofs.lemmas.Option.{slice_get-get_or, none-some}
use Rattle.td_base.proofs.lemmas.FaultLemmas.{first}
use Rattle.tzif_reader.specs.declared.tzif_fault.TzifFault.{TzifFault}
use Rattle.td_civil.specs.declared.moment_type.Moment.{Moment}
use Rattle.td_civil.specs.declared.local_time.Local.{Local}
use Rattle.tzif_reader.specs.declared.zone_file.LeapLine.{LeapLine}
use Rattle.tzif_reader.specs.declared.zone_file.ZoneFile.{ZoneFile}
use Rattle.tzif_reader.specs.declared.zone_lists.ZoneRest.{ZoneRest}
use Rattle.tzif_reader.specs.Layout.{second_block_size}
use Rattle.tzif_reader.specs.Cut.{block_place, counts_of, items, lists_of, parts_in, parts_of, piece, transition_at}
use Rattle.tzif_reader.specs.Faults.{first_fault, frame_fault}
use Rattle.tzif_reader.specs.Places.{IsRestOf}

pub length_items : {A : Type 0} (n : ℕ) (f : ℕ → A) → length (items n f) ≡ n
length_items n f = length-map-range_with_len f 0 n

pub item_at : {A : Type 0} (n i : ℕ) (f : ℕ → A) → i < n → slice_get (items n f) i ≡ Some (f i)
item_at n i f h =
    slice_get-get_or (items n f) i (f i) (rw (length_items n f) h)
    ∙ ap Some (get_or-map-range_with_len f 0 n i i (f i) h (omega arith))

-- a piece of a piece
piece_in : (a n place size : ℕ) (bytes : List ℕ) → a + n ≤ size → piece a n (piece place size bytes) ≡ piece (place + a) n bytes
piece_in a n place size bytes h =
    let whole : size ≡ a + (size - a) = omega (arith, h) in
    ap (λ s. take n (drop a (take s (drop place bytes)))) whole
    ∙ ap (take n) (drop-take a (size - a) (drop place bytes))
    ∙ take-take n (size - a) (drop a (drop place bytes)) (omega (arith, h))
    ∙ ap (take n) (drop-drop a place bytes)

-- the transitions of a file are these pieces of it
times_there : (file : List ℕ)
    → (parts_of file).times ≡ piece (block_place file) (8 * (counts_of file).timecnt) file
unfolding parts_of parts_in
times_there file =
    piece_in 0 (8 * (counts_of file).timecnt) (block_place file) (second_block_size (counts_of file)) file (omega arith)
    ∙ ap (λ p. piece p (8 * (counts_of file).timecnt) file) (omega arith)

numbers_there : (file : List ℕ)
    → (parts_of file).numbers ≡ piece (block_place file + 8 * (counts_of file).timecnt) (counts_of file).timecnt file
unfolding parts_of parts_in
numbers_there file =
    piece_in (8 * (counts_of file).timecnt) (counts_of file).timecnt (block_place file) (second_block_size (counts_of file)) file (omega arith)

pub lists_there : (file : List ℕ) (rest : ZoneRest) (times numbers : List ℕ) (kinds : List Local) (leaps : List LeapLine) (footer : List ℕ)
    → IsRestOf file rest
    → times ≡ piece rest.block_at (8 * rest.count) file → numbers ≡ piece (rest.block_at + 8 * rest.count) rest.count file
    → length numbers ≡ rest.count → kinds ≡ rest.kinds → leaps ≡ rest.leaps → footer ≡ rest.footer
    → ◌≡◌ {A = ZoneFile} (record {
      moments = items (length numbers) (transition_at times);
      numbers = numbers;
      kinds = kinds;
      leaps = leaps;
      footer = footer;
    }) (lists_of file)
lists_there file rest times numbers kinds leaps footer h t n l k e f =
    let times_are : times ≡ (parts_of file).times =
    t ∙ (ap (λ p. piece p (8 * rest.count) file) h.place ∙ ap (λ c. piece (block_place file) (8 * c) file) h.count) ∙ sym (times_there file) in
    let numbers_are : numbers ≡ (parts_of file).numbers =
    n ∙ (ap (λ p. piece (p + 8 * rest.count) rest.count file) h.place ∙ ap (λ c. piece (block_place file + 8 * c) c file) h.count)
    ∙ sym (numbers_there file) in
    let moments_are : items (length numbers) (transition_at times) ≡ (lists_of file).moments =
    ap (λ c. items c (transition_at times)) (l ∙ h.count) ∙ ap (λ x. items (counts_of file).timecnt (transition_at x)) times_are in
    same_lists _ _ _ _ _ (lists_of file) moments_are numbers_are (k ∙ h.kinds) (e ∙ h.leaps) (f ∙ h.footer)
  where
    same_lists : (moments : List Moment) (numbers : List ℕ) (kinds : List Local) (leaps : List LeapLine) (footer : List ℕ) (z : ZoneFile)
        → moments ≡ z.moments → numbers ≡ z.numbers → kinds ≡ z.kinds → leaps ≡ z.leaps → footer ≡ z.footer
        → ◌≡◌ {A = ZoneFile} (record { moments = moments; numbers = numbers; kinds = kinds; leaps = leaps; footer = footer }) z
    same_lists moments numbers kinds leaps footer z a b c d e = rw (a, b, c, d, e)

-- a file without a fault has none in its frame
pub framed : (file : List ℕ) (e : TzifFault) → first_fault file ≡ None → frame_fault file ≡ Some e → ⊥
unfolding first_fault
framed file e h f =
    none-some e (sym (first (frame_fault file) _ h) ∙ f)
