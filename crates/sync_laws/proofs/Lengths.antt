-- The length that a response states is that of its body.
use Rattle.std.proofs.Common.{◌≡◌, ℕ, ◌≤◌, List, [], ◌∷◌, length, map, filter, Bool, true, false, cond}
use Rattle.std.proofs.Common.{◌==◌, ◌&&◌, not, codes, Option, None, Some, Ok, refl, sym, ap, subst, ◌∙◌, arith}
use Rattle.std.specs.Char.{is_ascii_digit}
use Rattle.std.specs.List.{AllByRecursion, list_all}
use Rattle.std.specs.Str.{str_eq_ignore_ascii_case}
use Rattle.std.specs.Str.Parse.{digits_value}
use Rattle.std.proofs.lemmas.Bool.{eqb-true}
use Rattle.httparse.specs.Grammar.{ReadsResponse, ResponseHead, print_response, status_code}
use Rattle.httparse.specs.Spans.{name_and_value}
use Rattle.httparse.proofs.GrammarLemmas.{response_unique}
use Rattle.td_base.specs.Texts.{field_values}
use Rattle.http_client.specs.Replies.{IsReading, Sized, Unread, fault_place, framing, headed, headless, is_digit_text, reply_unless, framed_by_size, sized_by}
use Rattle.http_client.specs.declared.reply.Reply.{Reply}
use Rattle.sync_laws.specs.Fields.{HasLength, IsLengthOf}

abbrev Pair : Type 0
Pair = List ℕ × List ℕ

abbrev named : List ℕ → List Pair → List Pair
named name pairs = filter (λ f. str_eq_ignore_ascii_case f.0 name) pairs

-- the values are those of the fields with the name
values_are : (name : List ℕ) (pairs : List Pair) → field_values name pairs ≡ map (λ (f : Pair). f.1) (named name pairs)
values_are name [] = refl
values_are name (p ∷ ps) = by (values_are name ps) (str_eq_ignore_ascii_case p.0 name)
  where
    by : field_values name ps ≡ map (λ (f : Pair). f.1) (named name ps) → (b : Bool)
        → cond b (p.1 ∷ field_values name ps) (field_values name ps) ≡ map (λ (f : Pair). f.1) (cond b (p ∷ named name ps) (named name ps))
    by again true = ap (λ vs. p.1 ∷ vs) again
    by again false = again

no_values : (fs : List Pair) → length (map (λ (f : Pair). f.1) fs) ≡ 0 → fs ≡ []
no_values [] e = refl
no_values (f ∷ fs) e = absurd (omega (arith, e))

record OfLengths (body : List ℕ) (fs : List Pair) : Type 0 where
  pub one : length fs ≤ 1
  pub are : AllByRecursion (λ f. IsLengthOf body f.1) fs

both : (a b : Bool) → (a && b) ≡ true → b ≡ true
both true b e = e
both false b e = absurd (cc)

one_length : (body value : List ℕ) (head : ℕ) → fault_place (framed_by_size value) head (length body) ≡ None → IsLengthOf body value
one_length body value head e = by (is_digit_text value) refl e
  where
    ends : (b : Bool) → (digits_value 10 value == length body) ≡ b → cond b None (Some head) ≡ None → digits_value 10 value ≡ length body
    ends true is e = eqb-true (digits_value 10 value) (length body) is
    ends false is e = absurd (cc)

    by : (b : Bool) → is_digit_text value ≡ b → fault_place (cond b (Sized (digits_value 10 value)) Unread) head (length body) ≡ None → IsLengthOf body value
    by true is e = record {
      digits = both (not (length value == 0)) (list_all is_ascii_digit value) is;
      is = ends (digits_value 10 value == length body) refl e;
    }
    by false is e = absurd (cc)

of_lengths : (body : List ℕ) (fs : List Pair) (head : ℕ) → fault_place (sized_by (map (λ (f : Pair). f.1) fs)) head (length body) ≡ None → OfLengths body fs
of_lengths body [] head e = record { one = omega arith; are = tt }
of_lengths body (f ∷ []) head e = record { one = omega arith; are = (one_length body f.1 head e, tt) }
of_lengths body (f ∷ g ∷ fs) head e = absurd (cc)

record OfFraming (body : List ℕ) (pairs : List Pair) : Type 0 where
  pub lengths : OfLengths body (named (codes "content-length") pairs)
  pub plain : named (codes "transfer-encoding") pairs ≡ []

of_framing : (body : List ℕ) (pairs : List Pair) (head : ℕ) → fault_place (framing pairs) head (length body) ≡ None → OfFraming body pairs
unfolding framing
of_framing body pairs head e = by (length (field_values (codes "transfer-encoding") pairs) == 0) refl e
  where
    by : (b : Bool) → (length (field_values (codes "transfer-encoding") pairs) == 0) ≡ b
        → fault_place (cond b (sized_by (field_values (codes "content-length") pairs)) Unread) head (length body) ≡ None → OfFraming body pairs
    by true is e = record {
      lengths = of_lengths body (named (codes "content-length") pairs) head
          (subst (λ (vs : List (List ℕ)). fault_place (sized_by vs) head (length body) ≡ None) (values_are (codes "content-length") pairs) e);
      plain = no_values (named (codes "transfer-encoding") pairs)
          (sym (ap length (values_are (codes "transfer-encoding") pairs)) ∙ eqb-true (length (field_values (codes "transfer-encoding") pairs)) 0 is);
    }
    by false is e = absurd (cc)

pub not_failed : (place : Option ℕ) (reply made : Reply) → Ok reply ≡ reply_unless place made → place ≡ None
not_failed None reply made e = refl
not_failed (Some place) reply made e = absurd (cc)

pub has_length : (bytes body : List ℕ) (reply : Reply) (head : ResponseHead) → IsReading bytes (Ok reply) → ReadsResponse bytes head body
    → HasLength head.fields body
has_length bytes body reply head (headless none e) reads = absurd (cc)
has_length bytes body reply head (headed g rest has e) reads =
    let same = response_unique bytes g head rest body has.0 reads in
    let place = fault_place (framing (map name_and_value g.fields)) (length (print_response g)) (length rest) in
    let ends = not_failed place reply (record { status = status_code g; body = rest }) e in
    let parts = of_framing rest (map name_and_value g.fields) (length (print_response g)) ends in
    let whole : HasLength g.fields rest = record { one = parts.lengths.one; is = parts.lengths.are; plain = parts.plain } in
    subst (λ (x : ResponseHead). HasLength x.fields body) same.0 (subst (HasLength g.fields) same.1 whole)
