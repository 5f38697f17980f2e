-- An answer with observances is those of the zone's file.
use Rattle.std.proofs.Common.{◌≡◌, ◌⊎◌, ℕ, List, [], ◌∷◌, map, codes, Option, None, Some, inl, inr, refl, sym, ap, subst, ◌∙◌, arith, FitsSigned, w32}
use Rattle.std.specs.List.{AllByRecursion, Contains}
use Rattle.std.specs.Option.{IfSome}
use Rattle.std.specs.Prelude.{ℤ, ◌≤ℤ◌, ◌<ℤ◌, option_and_then}
use Rattle.jiff_core.proofs.SignedLemmas.{signed_arith}
use Rattle.serde_json.specs.Data.{Data, array}
use Rattle.serde_json.specs.Find.{as_number, as_str, get, of_integer}
use Rattle.serde_json.specs.Read.{read}
use Rattle.serde_json.specs.View.{items_of}
use Rattle.td_base.specs.declared.report.Role.{Role}
use Rattle.td_civil.specs.Bounds.{HasText}
use Rattle.td_civil.specs.declared.local_time.Local.{Local}
use Rattle.td_civil.specs.declared.local_time.Observance.{Observance}
use Rattle.td_civil.specs.declared.moment_type.TheConstants.{LO, HI}
use Rattle.td_civil.proofs.lemmas.Shown.{reads_back_lem}
use Rattle.catalogue.specs.Histories.{IsHistory}
use Rattle.catalogue.specs.Releases.{ReleaseData}
use Rattle.http_request.specs.declared.head.Head.{Head}
use Rattle.json_forms.specs.ExpansionDocument.{HasOffsets, expansion_data, expansion_document, observance_data}
use Rattle.posix_footer.specs.Lawful.{IsLawful, IsLawfulOffset}
use Rattle.posix_footer.specs.declared.rule_types.Footer.{Footer}
use Rattle.target.specs.Actions.{asks}
use Rattle.target.specs.declared.asked_types.Asked.TheVariants as ask
use Rattle.target.specs.declared.asked_types.Param.{Param}
use Rattle.tzif_reader.specs.Cut.{lists_of}
use Rattle.vtimezone.proofs.lemmas.Whole.{IsLawfulAndCarried}
use Rattle.vtimezone.proofs.lemmas.ZoneRange.{lawful_footer}
use Rattle.zone_meaning.specs.Observed.{observed}
use Rattle.zone_meaning.specs.RangeLaws.{IsLastBy, state_told}
use Rattle.zone_meaning.specs.Sound.{IsSound, IsSoundFile}
use Rattle.zone_meaning.specs.State.{footer_meant, zone_state}
use Rattle.zone_meaning.proofs.lemmas.Members.{member_cases, member_first, member_later, no_member}
use Rattle.zone_meaning.proofs.lemmas.Types.{has_types, state_offset}
use Rattle.release_laws.specs.States.{AreOfStates, IsChangeWithin, IsFirstOf}
use Rattle.actions.specs.Action.{action}
use Rattle.actions.specs.Bounds.{begin_of, finish_of}
use Rattle.actions.specs.declared.bounds.BoundRule.TheVariants as rule
use Rattle.answer_laws.specs.Expansions.{IsExpansionOf, SaysAt, onset_in}
use Rattle.answer_laws.proofs.Between.{begin_meant, bounds_are, finish_after, finish_high, finishes_given, starts_given}
use Rattle.answer_laws.proofs.Got.{expanded_by}
use Rattle.answer_laws.proofs.Named.{found_named, zone_is_sound}

-- ---- the offsets of a sound zone are integers of 32 bits

lawful_if_any : (footer : Option Footer) → IsLawfulAndCarried footer → IfSome footer IsLawful
lawful_if_any None h = tt
lawful_if_any (Some footer) h = h.0

fits : (z : ℤ) → IsLawfulOffset z → FitsSigned w32 z
fits z h = omega (arith, signed_arith, h)

offset_fits : (file : List ℕ) (t : ℤ) → IsSoundFile file → FitsSigned w32 (zone_state file t).offset
unfolding zone_state
offset_fits file t sound =
    fits _ (state_offset (lists_of file) (footer_meant (lists_of file).footer) t (has_types file sound.no_fault)
    (lawful_if_any (footer_meant (lists_of file).footer) (lawful_footer (lists_of file).footer sound.carried)))

one_fits : (file : List ℕ) (a b : ℤ) (o : Observance) → IsSoundFile file → IsFirstOf (zone_state file) a o ⊎ IsChangeWithin (zone_state file) a b o → HasOffsets o
one_fits file a b o sound (inl first) = record {
  from = subst (FitsSigned w32) (sym first.from) (offset_fits file _ sound);
  to = subst (FitsSigned w32) (sym first.of_state.to) (offset_fits file _ sound);
}
one_fits file a b o sound (inr within) = record {
  from = subst (FitsSigned w32) (sym within.change.from) (offset_fits file _ sound);
  to = subst (FitsSigned w32) (sym within.change.of_state.to) (offset_fits file _ sound);
}

each_of : (P : Observance → Type 0) (os : List Observance) → ((o : Observance) → Contains os o → P o) → AllByRecursion P os
each_of P [] all = tt
each_of P (o ∷ os) all = (all o (member_first o os), each_of P os (λ x there. all x (member_later o x os there)))

all_fit : (file : List ℕ) (a b : ℤ) (os : List Observance) → IsSoundFile file → AreOfStates (zone_state file) a b os → AllByRecursion HasOffsets os
all_fit file a b os sound are = each_of HasOffsets os (λ o there. one_fits file a b o sound (are.each o there))

-- ---- what the document says

-- an observance as an item of the document
module _ (o : Observance) where
  onset_there : HasText o.onset.seconds → onset_in (observance_data o) ≡ Some o.onset.seconds
  unfolding observance_data
  onset_there h = reads_back_lem o.onset.seconds h

  name_there : option_and_then as_str (get (codes "name") (observance_data o)) ≡ Some o.name
  unfolding observance_data
  name_there = refl

  offset_there : option_and_then as_number (get (codes "utc-offset-to") (observance_data o)) ≡ Some (of_integer o.to)
  unfolding observance_data
  offset_there = refl

items_there : (name : List ℕ) (a b : ℤ) (os : List Observance) → get (codes "observances") (expansion_data name a b os) ≡ Some (array (items_of (map observance_data os)))
unfolding expansion_data
items_there name a b os = refl

mapped : (os : List Observance) (o : Observance) → Contains os o → Contains (map observance_data os) (observance_data o)
mapped [] o there = absurd (no_member o there)
mapped (x ∷ xs) o there =
    elim (member_cases x o xs there) [
      | inl same ↦ subst (λ (y : Observance). Contains (observance_data x ∷ map observance_data xs) (observance_data y)) same
          (member_first (observance_data x) (map observance_data xs))
      | inr later ↦ member_later (observance_data x) (observance_data o) (map observance_data xs) (mapped xs o later)
    ]

of_mapped : (os : List Observance) (d : Data) → Contains (map observance_data os) d → (o : Observance) × Contains os o × (observance_data o ≡ d)
of_mapped [] d there = absurd (no_member d there)
of_mapped (x ∷ xs) d there =
    elim (member_cases (observance_data x) d (map observance_data xs) there) [
      | inl same ↦ (x, member_first x xs, same)
      | inr later ↦ let rest = of_mapped xs d later in (rest.0, member_later x rest.0 xs rest.1, rest.2)
    ]

-- an onset of a list of the range lies in it
onset_from : (state : ℤ → Local) (a b : ℤ) (o : Observance) → IsFirstOf state a o ⊎ IsChangeWithin state a b o → a ≤ℤ o.onset.seconds
onset_from state a b o (inl first) = let is = first.of_state.onset in omega (arith, signed_arith, is)
onset_from state a b o (inr within) = let is = within.change.of_state.onset in let after = within.after in omega (arith, signed_arith, is)

onset_to : (state : ℤ → Local) (a b : ℤ) (o : Observance) → a <ℤ b → IsFirstOf state a o ⊎ IsChangeWithin state a b o → o.onset.seconds <ℤ b
onset_to state a b o lt (inl first) = let is = first.of_state.onset in omega (arith, signed_arith, is)
onset_to state a b o lt (inr within) = let is = within.change.of_state.onset in let before = within.before in omega (arith, signed_arith, is)

some_inj : (m n : ℤ) → Some m ≡ Some n → m ≡ n
some_inj m n e = cc

-- the laws of the last observance
abbrev SomeLast : Type 0
SomeLast = (state : ℤ → Local) (a b t : ℤ) → a ≤ℤ t → t <ℤ b → (o : Observance) × IsLastBy (observed state a b) t o

abbrev LastTells : Type 0
LastTells = (state : ℤ → Local) (a b t : ℤ) (o : Observance) → a ≤ℤ t → t <ℤ b → IsLastBy (observed state a b) t o → state_told o ≡ state t

says_at : SomeLast → LastTells → (name : List ℕ) (state : ℤ → Local) (a b : ℤ) → LO ≤ℤ a → b ≤ℤ HI → a <ℤ b → AreOfStates state a b (observed state a b) → (t : ℤ)
    → a ≤ℤ t → t <ℤ b → SaysAt (expansion_data name a b (observed state a b)) t (state t)
says_at some tells name state a b low high lt are t from before =
    let found = some state a b t from before in
    let o = found.0 in
    let last = found.1 in
    let told = tells state a b t o from before last in
    let texts = λ (x : Observance) (there : Contains (observed state a b) x).
    (let one = onset_from state a b x (are.each x there) in
    let two = onset_to state a b x lt (are.each x there) in
    let text : HasText x.onset.seconds = (omega (arith, signed_arith), omega (arith, signed_arith)) in text) in
    record {
      items = map observance_data (observed state a b);
      items_are = items_there name a b (observed state a b);
      item = observance_data o;
      there = mapped (observed state a b) o last.there;
      onset = o.onset.seconds;
      onset_is = onset_there o (texts o last.there);
      begun = last.begun;
      last = λ other v there is le.
          let x = of_mapped (observed state a b) other there in
          let at : onset_in (observance_data x.0) ≡ Some v = ap onset_in x.2 ∙ is in
          let onset = some_inj x.0.onset.seconds v (sym (onset_there x.0 (texts x.0 x.1)) ∙ at) in
          subst (λ (z : ℤ). z ≤ℤ o.onset.seconds) onset (last.last x.0 x.1 (subst (λ (z : ℤ). z ≤ℤ t) (sym onset) le));
      name = name_there o ∙ ap (λ (s : Local). Some s.name) told;
      offset = offset_there o ∙ ap (λ (s : Local). Some (of_integer s.offset)) told;
    }

-- ---- the answer

-- the laws that are called
abbrev ReadsBack : Type 0
ReadsBack =
    (tzid : List ℕ) (from until : ℤ) (observances : List Observance) → AllByRecursion HasOffsets observances
    → read (expansion_document tzid from until observances) ≡ Some (expansion_data tzid from until observances)

abbrev OfStates : Type 0
OfStates = (state : ℤ → Local) (a b : ℤ) → a <ℤ b → AreOfStates state a b (observed state a b)

pub tells_the_expansion : ReadsBack → OfStates → SomeLast → LastTells → (H : List ReleaseData) (role : Role) (head : Head) (name : List ℕ) (start end : Param) → IsHistory IsSound H
    → asks head.target ≡ ask.Expand name start end → (action H role head).status ≡ 200 → IsExpansionOf H name start end (action H role head)
tells_the_expansion reads states some tells H role head name start end history requested is =
    let x = expanded_by H role head name start end requested is in
    let zone = x.entry.content in
    let named = found_named H name x.entry x.found in
    let both = bounds_are rule.Required start end x.bounds x.bounded in
    let from = begin_of x.bounds.start in
    let until = finish_of x.bounds.end in
    let ends = finishes_given x.bounds.start end x.bounds.end both.end_is in
    let are = states (zone_state zone.file) from.seconds until.seconds (finish_after from end until ends) in
    let list = observed (zone_state zone.file) from.seconds until.seconds in
    let lt = finish_after from end until ends in
    let begins = starts_given start x.bounds.start both.start_is in
    record {
      zone = zone;
      named = named;
      from = from;
      begins = begins;
      until = until;
      ends = ends;
      observances = list;
      are = are;
      document = expansion_data name from.seconds until.seconds list;
      document_is = refl;
      reads = ap read x.body
          ∙ reads name from.seconds until.seconds list
          (all_fit zone.file from.seconds until.seconds list (zone_is_sound H name zone history named) are);
      tells = says_at some tells name (zone_state zone.file) from.seconds until.seconds (begin_meant start from begins).0 (finish_high from end until ends) lt are;
    }
