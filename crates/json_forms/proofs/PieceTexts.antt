-- The text of an observance, and the pieces that are appended for it.
use Rattle.std.proofs.Common.{◌≡◌, ◌≢◌, ℕ, ◌+◌, ◌%◌, Bool, true, false, IsTrue, List, [], ◌∷◌, ◌++◌, cond, codes, nat_le, ◌≤◌, length, drop, refl, sym, ap, ap₂, ◌∙◌, append_assoc, arith, ℤ}
use Rattle.std.proofs.lemmas.Bool.Decides.{nat_tests}
use Rattle.std.proofs.lemmas.Bool.{and_parts}
use Rattle.std.specs.Fmt.{signed_decimal}
use Rattle.td_base.specs.Names.{is_printable, IsPlain}
use Rattle.json_forms.specs.ExpansionDocument.{observance_data}
use Rattle.json_forms.specs.Pieces.{head_text, HasPieces}
use Rattle.json_forms.specs.TreeTokens.{tree_tokens}
use Rattle.json_forms.proofs.Integers.{integer_text}
use Rattle.td_civil.specs.declared.local_time.Observance.{Observance}
use Rattle.json.specs.Print.{escape, escape_byte, print_from}
use Rattle.json.specs.Token as token
use Rattle.td_civil.specs.Stamp.{Stamp, spelling}
use Rattle.td_civil.specs.Calendar.{stamp_of, text_of}

-- a printable byte but a quote and a backslash needs no escape
pub byte_stays : (b : ℕ) → IsTrue (is_printable b) → b ≢ 34 → b ≢ 92 → escape_byte b ≡ b ∷ []
unfolding escape_byte
byte_stays b plain no_quote no_backslash =
    let least : IsTrue (nat_le 32 b) = (and_parts (nat_le 32 b) (nat_le b 126) plain).0 in
    grind (arith, nat_tests)

digit_stays : (n : ℕ) → escape_byte (48 + n % 10) ≡ (48 + n % 10) ∷ []
unfolding escape_byte
digit_stays n = grind (arith, nat_tests)

-- nor do the other bytes of a moment
hyphen_stays : escape_byte 45 ≡ 45 ∷ []
unfolding escape_byte
hyphen_stays = refl

colon_stays : escape_byte 58 ≡ 58 ∷ []
unfolding escape_byte
colon_stays = refl

time_stays : escape_byte 84 ≡ 84 ∷ []
unfolding escape_byte
time_stays = refl

zone_stays : escape_byte 90 ≡ 90 ∷ []
unfolding escape_byte
zone_stays = refl

spelling_stays : (s : Stamp) → escape (spelling s) ≡ spelling s
spelling_stays s = simp (digit_stays, hyphen_stays, colon_stays, time_stays, zone_stays)

pub stamp_stays : (m : ℤ) → escape (text_of m) ≡ text_of m
unfolding text_of
stamp_stays m = spelling_stays (stamp_of m)

-- the pieces, one after another
abbrev pieces : Bool → List ℕ → List ℕ → List ℕ → List ℕ → List ℕ
pieces after name stamp from to =
    cond after (44 ∷ []) []
    ++ (codes "{\"name\":\"" ++ (escape name ++ (codes "\",\"onset\":\"" ++ (stamp ++ (codes "\",\"utc-offset-from\":"
    ++ (from ++ (codes ",\"utc-offset-to\":" ++ (to ++ codes "}"))))))))

-- what comes after the moment and its closing quote
offsets : List ℕ → List ℕ → List ℕ
offsets from to = codes ",\"utc-offset-from\":" ++ (from ++ (codes ",\"utc-offset-to\":" ++ (to ++ codes "}")))

strings_joined : (name stamp from to : List ℕ) → escape stamp ≡ stamp
    → (escape name ++ 34 ∷ []) ++ (codes ",\"onset\":\"" ++ ((escape stamp ++ 34 ∷ []) ++ offsets from to))
    ≡ escape name ++ (codes "\",\"onset\":\"" ++ (stamp ++ (codes "\",\"utc-offset-from\":"
    ++ (from ++ (codes ",\"utc-offset-to\":" ++ (to ++ codes "}"))))))
unfolding offsets
strings_joined name stamp from to stays =
    append_assoc (escape name) (34 ∷ []) _
    ∙ ap (λ l. escape name ++ (codes "\",\"onset\":\"" ++ l)) (append_assoc (escape stamp) (34 ∷ []) _ ∙ ap (λ s. s ++ 34 ∷ offsets from to) stays)

observance_printed : (after : Bool) (name stamp from to : List ℕ) → escape stamp ≡ stamp
    → print_from after
    (token.begin_object ∷ token.key (codes "name") ∷ token.string name ∷ token.key (codes "onset") ∷ token.string stamp
    ∷ token.key (codes "utc-offset-from") ∷ token.number from ∷ token.key (codes "utc-offset-to") ∷ token.number to ∷ token.end_object ∷ [])
    ≡ pieces after name stamp from to
unfolding print_from escape_byte offsets
observance_printed true name stamp from to stays = ap (λ l. codes ",{\"name\":\"" ++ l) (strings_joined name stamp from to stays)
observance_printed false name stamp from to stays = ap (λ l. codes "{\"name\":\"" ++ l) (strings_joined name stamp from to stays)

-- the pieces as they are kept
head_joined : (a n x s t : List ℕ) → (a ++ (n ++ x)) ++ (s ++ t) ≡ a ++ (n ++ (x ++ (s ++ t)))
head_joined a n x s t = simp append_assoc

three_joined : (out h s t : List ℕ) → ((out ++ h) ++ s) ++ t ≡ out ++ (h ++ (s ++ t))
three_joined out h s t = simp append_assoc

-- what comes before the moment, where a value came before or not
abbrev opening : Bool → List ℕ → List ℕ
opening true name = head_text name
opening false name = drop 1 (head_text name)

opened : (after : Bool) (name stamp from to : List ℕ)
    → opening after name ++ (stamp ++ (codes "\",\"utc-offset-from\":" ++ (from ++ (codes ",\"utc-offset-to\":" ++ (to ++ codes "}")))))
    ≡ pieces after name stamp from to
opened true name stamp from to = head_joined (codes ",{\"name\":\"") (escape name) (codes "\",\"onset\":\"") stamp _
opened false name stamp from to = head_joined (codes "{\"name\":\"") (escape name) (codes "\",\"onset\":\"") stamp _

-- as they are appended one after another
pub observance_appended : (out : List ℕ) (after : Bool) (name stamp from to : List ℕ) → escape stamp ≡ stamp
    → ((out ++ opening after name) ++ stamp) ++ (codes "\",\"utc-offset-from\":" ++ (from ++ (codes ",\"utc-offset-to\":" ++ (to ++ codes "}"))))
    ≡ out ++ print_from after
    (token.begin_object ∷ token.key (codes "name") ∷ token.string name ∷ token.key (codes "onset") ∷ token.string stamp
    ∷ token.key (codes "utc-offset-from") ∷ token.number from ∷ token.key (codes "utc-offset-to") ∷ token.number to ∷ token.end_object ∷ [])
observance_appended out after name stamp from to stays =
    three_joined out (opening after name) stamp _
    ∙ ap (λ l. out ++ l) (opened after name stamp from to ∙ sym (observance_printed after name stamp from to stays))

-- the text of an observance from its pieces
pub pieces_appended : (out head onset tail : List ℕ) (after : Bool) (o : Observance) → HasPieces o head onset tail
    → ((out ++ cond after head (drop 1 head)) ++ onset) ++ tail ≡ out ++ print_from after (tree_tokens (observance_data o))
unfolding observance_data
pieces_appended out head onset tail true o h =
    rw (h.head_is, h.onset_is, h.tail_is, integer_text o.from, integer_text o.to)
    (observance_appended out true o.name (text_of o.onset.seconds) (signed_decimal o.from) (signed_decimal o.to) (stamp_stays o.onset.seconds))
pieces_appended out head onset tail false o h =
    rw (h.head_is, h.onset_is, h.tail_is, integer_text o.from, integer_text o.to)
    (observance_appended out false o.name (text_of o.onset.seconds) (signed_decimal o.from) (signed_decimal o.to) (stamp_stays o.onset.seconds))

five_joined : (a b c d e : List ℕ) → (((a ++ b) ++ c) ++ d) ++ e ≡ a ++ (b ++ (c ++ (d ++ e)))
five_joined a b c d e = simp append_assoc

-- what comes after the moment, as it is put together
pub tail_joined : (t0 t1 t2 t3 t4 t5 b c from to : List ℕ)
    → t0 ≡ [] → t1 ≡ t0 ++ codes "\",\"utc-offset-from\":" → t2 ≡ t1 ++ b → b ≡ from
    → t3 ≡ t2 ++ codes ",\"utc-offset-to\":" → t4 ≡ t3 ++ c → c ≡ to → t5 ≡ t4 ++ codes "}"
    → t5 ≡ codes "\",\"utc-offset-from\":" ++ (from ++ (codes ",\"utc-offset-to\":" ++ (to ++ codes "}")))
tail_joined t0 t1 t2 t3 t4 t5 b c from to h0 h1 h2 is_from h3 h4 is_to h5 =
    rw (h5, h4, is_to, h3, h2, is_from, h1, h0)
    (five_joined (codes "\",\"utc-offset-from\":") from (codes ",\"utc-offset-to\":") to (codes "}"))

-- what comes before it has its comma at least
pub head_is_long : (o : Observance) (head onset tail : List ℕ) → HasPieces o head onset tail → 1 ≤ length head
head_is_long o head onset tail h = rw h.head_is (omega arith)
