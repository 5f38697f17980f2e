use Rattle.std.proofs.Common.{◌≡◌, ◌-◌, ◌<◌, true, sym, ap, ◌∙◌, arith, get_or}
use Rattle.std.specs.Str.{bytes_eq}
use Rattle.std.proofs.lemmas.Slice.Eq.{bytes_eq-Decides}
use Rattle.catalogue.specs.Histories.{retired, token_of}
use Rattle.catalogue.specs.Holdings.{place_count}
use Rattle.catalogue.specs.Lookups.{place_of}
use Rattle.catalogue.proofs.lemmas.Growing.{places_are}
use Rattle.catalogue.proofs.lemmas.Tokens.{few_places, place_found, place_missed, token_at, token_numbered}
use Rattle.catalogue.proofs.holding.Catalogue.place_of.Goals as goal
use Rattle.catalogue.proofs.holding.Catalogue.place_of.Goals.{then-place-retired-via-then-place-retired, then-place-retired-via-else-place-retired+then-self-place}

pub returns-in_err-place : goal.returns-in_err-place
returns-in_err-place g c = λ H s.
    let places = places_are g.Z.ZoneData.bytes g.Z.ZoneData.sound c.args.self.now H s in
    let fits = few_places g.Z.ZoneData.bytes g.Z.ZoneData.sound c.args.self.now H s in
    c.from_residual.ensures ∙ sym (place_missed H c.args.text.now (λ k low high e.
    let t = token_numbered H k in
    let none = c.in_err-place.ensures k t.rest (omega (arith, places, fits)) (sym e ∙ t.is) in
    absurd (cc (none))))

pub returns-then-place-retired : goal.returns-then-place-retired
returns-then-place-retired g c = λ H s.
    let places = places_are g.Z.ZoneData.bytes g.Z.ZoneData.sound c.args.self.now H s in
    let fits = few_places g.Z.ZoneData.bytes g.Z.ZoneData.sound c.args.self.now H s in
    sym (place_missed H c.args.text.now (λ k low high e.
    let t = token_numbered H k in
    let is = c.in_ok-place.ensures k t.rest (omega (arith, places, fits)) (sym e ∙ t.is) in
    let same : c.in_ok-place.place ≡ k = cc (is) in
    elim c.then-place-retired.branch [
      | then-place-retired-via-then-place-retired w ↦ omega (arith, same, low, places, c.retired-retired.ensures, w.if-place-retired.true)
      | then-place-retired-via-else-place-retired+then-self-place w ↦ omega (arith, same, high, places, w.if-self-place.true)
    ]))

pub returns-then-eq : goal.returns-then-eq
returns-then-eq g c = λ H s.
    let places = places_are g.Z.ZoneData.bytes g.Z.ZoneData.sound c.args.self.now H s in
    let fits = few_places g.Z.ZoneData.bytes g.Z.ZoneData.sound c.args.self.now H s in
    let t = c.index-as_slice-place.result in
    let kept : retired (place_count c.args.self.now) < c.in_ok-place.place = omega (arith, c.retired-retired.ensures, c.if-place-retired.false) in
    let token = token_at g.Z.ZoneData.bytes g.Z.ZoneData.sound c.args.self.now H s c.in_ok-place.place t kept (omega (arith, c.if-self-place.false))
    (c.index-as_slice-place.is ∙ ap (λ ts. get_or ts (c.in_ok-place.place - 1 - c.retired-retired.result) t) c.as_slice.ensures
    ∙ ap (λ k. get_or c.args.self.now.tokens (c.in_ok-place.place - 1 - k) t) c.retired-retired.ensures) in
    let equal : bytes_eq c.as_slice-2.result.now c.args.text.now ≡ true = sym c.eq.ensures ∙ c.if-eq.true in
    let text : c.args.text.now ≡ token_of H c.in_ok-place.place = sym ((bytes_eq-Decides c.as_slice-2.result.now c.args.text.now).0 equal)
    ∙ c.as_slice-2.ensures.value ∙ token in
    sym (ap (place_of H) text
    ∙ place_found H c.in_ok-place.place (omega (arith, kept)) (omega (arith, places, c.if-self-place.false)) (omega (arith, places, kept)) (omega (arith, places, fits)))

pub returns-else-eq : goal.returns-else-eq
returns-else-eq g c = λ H s.
    let places = places_are g.Z.ZoneData.bytes g.Z.ZoneData.sound c.args.self.now H s in
    let fits = few_places g.Z.ZoneData.bytes g.Z.ZoneData.sound c.args.self.now H s in
    let t = c.index-as_slice-place.result in
    let kept : retired (place_count c.args.self.now) < c.in_ok-place.place = omega (arith, c.retired-retired.ensures, c.if-place-retired.false) in
    let token = token_at g.Z.ZoneData.bytes g.Z.ZoneData.sound c.args.self.now H s c.in_ok-place.place t kept (omega (arith, c.if-self-place.false))
    (c.index-as_slice-place.is ∙ ap (λ ts. get_or ts (c.in_ok-place.place - 1 - c.retired-retired.result) t) c.as_slice.ensures
    ∙ ap (λ k. get_or c.args.self.now.tokens (c.in_ok-place.place - 1 - k) t) c.retired-retired.ensures) in
    sym (place_missed H c.args.text.now (λ k low high e.
    let n = token_numbered H k in
    let is = c.in_ok-place.ensures k n.rest (omega (arith, places, fits)) (sym e ∙ n.is) in
    let same : c.in_ok-place.place ≡ k = cc (is) in
    let text : c.as_slice-2.result.now ≡ c.args.text.now = c.as_slice-2.ensures.value ∙ token ∙ ap (token_of H) same ∙ e in
    let equal : c.eq.result ≡ true = c.eq.ensures ∙ (bytes_eq-Decides c.as_slice-2.result.now c.args.text.now).1 text in
    absurd (cc (equal, c.if-eq.false))))
