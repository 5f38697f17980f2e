-- What a mirror requests in a world is a token or an identifier, and so it can be written.
use Rattle.std.proofs.Common.{◌≡◌, ℕ, ◌+◌, ◌<◌, ◌≤◌, ◌^◌, List, [], ◌∷◌, ◌++◌, length, take, Bool, true}
use Rattle.std.proofs.Common.{false, ◌||◌, nat_le, Option, None, Some, refl, sym, ap, subst, ◌∙◌, arith, length-append, All, decimal}
use Rattle.std.specs.Prelude.{is_some}
use Rattle.std.specs.List.{AllByRecursion, list_all}
use Rattle.std.specs.Str.{bytes_eq}
use Rattle.std.proofs.lemmas.Bool.{and_parts}
use Rattle.std.proofs.lemmas.Bool.Decides.{nat_tests}
use Rattle.std.proofs.lemmas.List.Elements.{All-cons, All-nil}
use Rattle.td_base.specs.Names.{IsPlain, is_identifier, is_path, is_printable, is_segment, segments}
use Rattle.td_base.specs.declared.report.Ask.TheVariants as ask
use Rattle.td_base.proofs.lemmas.PlainLemmas.{identifier_is_plain}
use Rattle.catalogue.specs.Histories.{IsHistory, token_of}
use Rattle.catalogue.specs.Lookups.{zone_at, zones_of}
use Rattle.catalogue.specs.Releases.{ContentData, ReleaseData, names_of}
use Rattle.catalogue.specs.declared.limits.TheConstants.{MOST_RELEASES}
use Rattle.catalogue.proofs.lemmas.DigitTexts.{token_form, token_plain}
use Rattle.json_forms.proofs.lemmas.PlainUtf8.{utf8_plain}
use Rattle.http_request.specs.Judging.{is_host}
use Rattle.zone_meaning.specs.Sound.{IsSound}
use Rattle.sync_core.specs.Mirrors.{ask_for}
use Rattle.sync_core.proofs.lemmas.Puts.{bytes_same}
use Rattle.sync_world.specs.Primaries.{Service}
use Rattle.sync_world.proofs.Aliases.{cut, zone_named}
use Rattle.sync_world.proofs.Files.{zones_are}
use Rattle.sync_world.proofs.Looks.{StateData, state_ask}
use Rattle.sync_world.proofs.Standing.{Invariant, TokensStand, fresh, stands}
use Rattle.sync_world.proofs.Tokens.{few_places}
use Rattle.sync_world.proofs.Zones.{has_text}
use Rattle.mirror_world.specs.Asking.{IsAskable}

below_256 : (b : ℕ) → is_printable b ≡ true → b < 256
below_256 b plain =
    let most : nat_le b 126 ≡ true = (and_parts (nat_le 32 b) (nat_le b 126) plain).1 in
    grind (arith, nat_tests)

plain_bytes : (text : List ℕ) → IsPlain text → All (λ b. b < 256) text
plain_bytes [] plain = All-nil (λ b. b < 256)
plain_bytes (b ∷ bs) plain =
    let parts = and_parts (is_printable b) (list_all is_printable bs) plain in
    All-cons (λ b. b < 256) b bs (below_256 b parts.0) (plain_bytes bs parts.1)

-- ---- identifiers

short_identifier : (text : List ℕ) → is_identifier text ≡ true → length text ≤ 64
unfolding is_path
short_identifier text h = let most = (and_parts (nat_le (length text) 64) (list_all is_segment (segments text)) h).0 in grind (arith, nat_tests)

has_byte : (text : List ℕ) → is_identifier text ≡ true → 0 < length text
unfolding is_path segments
has_byte [] h = absurd (cc)
has_byte (b ∷ bs) h = omega arith

each_named : (q : List ℕ → Bool) (xs : List (List ℕ)) (t : List ℕ) → list_all q xs ≡ true → has_text xs t ≡ true → q t ≡ true
each_named q [] t h k = absurd (cc)
each_named q (x ∷ xs) t h k =
    let parts = and_parts (q x) (list_all q xs) h in
    by (each_named q xs t parts.1) parts.0 (bytes_eq t x) refl k
  where
    by : (has_text xs t ≡ true → q t ≡ true) → q x ≡ true → (b : Bool) → bytes_eq t x ≡ b → (b || has_text xs t) ≡ true → q t ≡ true
    by again first true same l = subst (λ z. q z ≡ true) (sym (bytes_same t x same)) first
    by again first false same l = again l

has_zone : (cs : List ContentData) (t : List ℕ) (o : Option ContentData) → zone_at cs t ≡ o → is_some o ≡ true → has_text (names_of cs) t ≡ true
has_zone cs t None e some = absurd (cc)
has_zone cs t (Some c) e some = zone_named cs t c e

identifier_there : (H : List ReleaseData) (m : ℕ) (t : List ℕ) → IsHistory IsSound H → 1 ≤ m → m ≤ length H
    → is_some (zone_at (zones_of (take m H)) t) ≡ true → is_identifier t ≡ true
identifier_there H m t h low high some =
    let c = cut H m (low, high) in
    by c.A c.x c.X c.whole c.front
  where
    by : (A : List ReleaseData) (x : ReleaseData) (X : List ReleaseData) → H ≡ A ++ x ∷ X → take m H ≡ A ++ x ∷ [] → is_identifier t ≡ true
    by A x X whole front =
        let zones : zones_of (take m H) ≡ x.contents = ap zones_of front ∙ zones_are A x [] in
        let there : is_some (zone_at x.contents t) ≡ true = subst (λ (cs : List ContentData). is_some (zone_at cs t) ≡ true) zones some in
        let names : list_all is_identifier (names_of x.contents) ≡ true = (subst (IsHistory IsSound) whole h A x X refl).fits.identifiers in
        each_named is_identifier (names_of x.contents) t names (has_zone x.contents t (zone_at x.contents t) refl there)

-- ---- requests

module _ (host : List ℕ) (is : is_host host ≡ true) (few : length host ≤ 255) where
  no_text : IsAskable host (ask.List None)
  no_text = record { is_host = is; bytes = plain_bytes [] refl; text = utf8_plain [] refl; named = tt; fits = omega (arith, few) }

  with_name : (name : List ℕ) → is_identifier name ≡ true → IsAskable host (ask.Get name)
  with_name name h =
      let plain = identifier_is_plain name h in
      record {
        is_host = is;
        bytes = plain_bytes name plain;
        text = utf8_plain name plain;
        named = has_byte name h;
        fits = omega (arith, few, short_identifier name h);
      }

  with_token : (H : List ReleaseData) (m : ℕ) → m < 2 ^ 32 → IsAskable host (ask.List (Some (token_of H m)))
  with_token H m small =
      let plain = token_plain H m small in
      let form = token_form H m small in
      let long : length (token_of H m) ≡ length form.digits + 1 + length (decimal m) =
      omega (arith, ap length form.is, length-append (decimal m) (45 ∷ form.digits)) in
      record {
        is_host = is;
        bytes = plain_bytes (token_of H m) plain;
        text = utf8_plain (token_of H m) plain;
        named = tt;
        fits = omega (arith, few, long, form.sixteen, form.ten);
      }

  pub askable : (P : Service) (H : List ReleaseData) (l : ℕ) (s : StateData) → IsHistory IsSound H → 1 ≤ length H → Invariant P H l s
      → IsAskable host (state_ask s)
  askable P H l s h some (fresh f) =
      subst (λ (ps : List (List ℕ)). IsAskable host (ask_for ps s.token)) (sym f.pending)
      (subst (λ (o : Option (List ℕ)). IsAskable host (ask.List o)) (sym f.token) no_text)
  askable P H l s h some (stands m k) = by s.pending refl
    where
      by : (ps : List (List ℕ)) → s.pending ≡ ps → IsAskable host (ask_for s.pending s.token)
      by [] none =
          let tokens : TokensStand H m [] s.token s.coming = subst (λ (ps : List (List ℕ)). TokensStand H m ps s.token s.coming) none k.tokens in
          let places : length H ≤ MOST_RELEASES = few_places IsSound H h some in
          let small : m < 2 ^ 32 = omega (arith, k.within, k.high, places) in
          subst (λ (ps : List (List ℕ)). IsAskable host (ask_for ps s.token)) (sym none)
          (subst (λ (o : Option (List ℕ)). IsAskable host (ask.List o)) (sym tokens.0) (with_token H m small))
      by (t ∷ ts) is_pending =
          let all : AllByRecursion (λ t. is_some (zone_at (zones_of (take m H)) t) ≡ true) (t ∷ ts) =
          subst (AllByRecursion (λ t. is_some (zone_at (zones_of (take m H)) t) ≡ true)) is_pending k.pending in
          let high : m ≤ length H = omega (arith, k.within, k.high) in
          subst (λ (ps : List (List ℕ)). IsAskable host (ask_for ps s.token)) (sym is_pending) (with_name t (identifier_there H m t h k.low high all.0))
