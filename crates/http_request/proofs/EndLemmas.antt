-- A decision on a prefix is the decision on the whole.
use Rattle.std.proofs.Common.{◌≡◌, ◌≢◌, ℕ, suc, ◌+◌, ◌<◌, ◌≤◌, ◌⊎◌, inl, inr, List, [], ◌∷◌, ◌++◌, length, take, drop, take-append-drop, length-append, Bool}
use Rattle.std.proofs.Common.{true, false, not, ◌&&◌, ◌||◌, Some, None, refl, sym, ap, ◌∙◌, arith, add-one}
use Rattle.std.proofs.lemmas.Bool.{cases_Bool, cases_eq, ne_eqb}
use Rattle.std.proofs.lemmas.Option.{none-some, same_Some}
use Rattle.http_request.specs.Ends.{head_lines_from, end_among, end_of_head, is_blank_line, feeds}
use Rattle.http_request.specs.Scans.{end_from, head_end}

-- the byte at the prefix ends the head
pub end_last : (begun : Bool) (line : List ℕ) (at b : ℕ) (bs : List ℕ) → b ≡ 10 → (begun && is_blank_line line) ≡ true
    → end_from begun line at (b ∷ bs) ≡ Some (at + 1)
unfolding end_from
end_last begun line at b bs e h = rw (e, h)

-- it ends another line
pub end_line : (begun : Bool) (line : List ℕ) (at b : ℕ) (bs : List ℕ) → b ≡ 10 → (begun && is_blank_line line) ≡ false
    → end_from begun line at (b ∷ bs) ≡ end_from (begun || not (is_blank_line line)) [] (at + 1) bs
unfolding end_from
end_line begun line at b bs e h = rw (e, h)

-- it is within a line
pub end_within : (begun : Bool) (line : List ℕ) (at b : ℕ) (bs : List ℕ) → b ≢ 10
    → end_from begun line at (b ∷ bs) ≡ end_from begun (line ++ b ∷ []) (at + 1) bs
unfolding end_from
end_within begun line at b bs e = rw (ne_eqb b 10 e)

pub end_none : (begun : Bool) (line : List ℕ) (at : ℕ) → end_from begun line at [] ≡ None
unfolding end_from
end_none begun line at = refl

-- what a byte does: it ends the head, whatever follows, or the search goes on after it
pub record GoesOn (begun : Bool) (line : List ℕ) (at b : ℕ) : Type 0 where
  pub begun_after : Bool
  pub line_after : List ℕ
  pub same : (bs : List ℕ) → end_from begun line at (b ∷ bs) ≡ end_from begun_after line_after (at + 1) bs

pub record Stops (begun : Bool) (line : List ℕ) (at b : ℕ) : Type 0 where
  pub feed : b ≡ 10
  pub same : (bs : List ℕ) → end_from begun line at (b ∷ bs) ≡ Some (at + 1)

pub one_byte : (begun : Bool) (line : List ℕ) (at b : ℕ) → Stops begun line at b ⊎ GoesOn begun line at b
one_byte begun line at b = at_feed (cases_eq b 10) (cases_Bool (begun && is_blank_line line))
  where
    at_feed : (b ≡ 10) ⊎ (b ≢ 10) → ((begun && is_blank_line line) ≡ true) ⊎ ((begun && is_blank_line line) ≡ false)
        → Stops begun line at b ⊎ GoesOn begun line at b
    at_feed (inl e) (inl h) = inl (record { feed = e; same = λ bs. end_last begun line at b bs e h })
    at_feed (inl e) (inr h) = inr (record { begun_after = begun || not (is_blank_line line); line_after = []; same = λ bs. end_line begun line at b bs e h })
    at_feed (inr n) h = inr (record { begun_after = begun; line_after = line ++ b ∷ []; same = λ bs. end_within begun line at b bs n })

-- an end that is found stays, whatever follows; it lies after what stood before, within the list,
-- at a line feed
pub record Ended (begun : Bool) (line : List ℕ) (at : ℕ) (bytes : List ℕ) (n : ℕ) : Type 0 where
  pub more : ℕ
  pub place : n ≡ at + (more + 1)
  pub within : more + 1 ≤ length bytes
  pub feed : 0 < feeds (take (more + 1) bytes)
  pub stays : (next : List ℕ) → end_from begun line at (bytes ++ next) ≡ Some n

feeds_at_feed : (b : ℕ) (bs : List ℕ) → b ≡ 10 → feeds (b ∷ bs) ≡ 1 + feeds bs
feeds_at_feed b bs e = rw e

feeds_after : (b : ℕ) (bs : List ℕ) → feeds bs ≤ feeds (b ∷ bs)
feeds_after b bs = omega arith

stopped : (begun : Bool) (line : List ℕ) (at b : ℕ) (bs : List ℕ) (n : ℕ) → Stops begun line at b → n ≡ at + 1
    → Ended begun line at (b ∷ bs) n
stopped begun line at b bs n s e = record {
  more = 0;
  place = omega (arith, e);
  within = omega arith;
  feed = rw (feeds_at_feed b [] s.feed) (omega arith);
  stays = λ next. s.same (bs ++ next) ∙ ap Some (sym e);
}

went_on : (begun : Bool) (line : List ℕ) (at b : ℕ) (bs : List ℕ) (n : ℕ) (g : GoesOn begun line at b)
    → Ended g.begun_after g.line_after (at + 1) bs n → Ended begun line at (b ∷ bs) n
went_on begun line at b bs n g e = record {
  more = e.more + 1;
  place = omega (arith, e.place);
  within = omega (arith, e.within);
  feed = rw add-one (omega (arith, e.feed, feeds_after b (take (e.more + 1) bs)));
  stays = λ next. g.same (bs ++ next) ∙ e.stays next;
}

pub ended : (begun : Bool) (line : List ℕ) (at : ℕ) (bytes : List ℕ) (n : ℕ) → end_from begun line at bytes ≡ Some n
    → Ended begun line at bytes n
ended begun line at [] n e = absurd (none-some n (sym (end_none begun line at) ∙ e))
ended begun line at (b ∷ bs) n e =
    by_byte (λ (g : GoesOn begun line at b) h. ended g.begun_after g.line_after (at + 1) bs n h) (one_byte begun line at b)
  where
    by_byte : ((g : GoesOn begun line at b) → end_from g.begun_after g.line_after (at + 1) bs ≡ Some n → Ended g.begun_after g.line_after (at + 1) bs n)
        → Stops begun line at b ⊎ GoesOn begun line at b → Ended begun line at (b ∷ bs) n
    by_byte f (inl s) = stopped begun line at b bs n s (same_Some n (at + 1) (sym e ∙ s.same bs))
    by_byte f (inr g) = went_on begun line at b bs n g (f g (sym (g.same bs) ∙ e))

-- where no end is found, the search goes on after the list
pub record Open (begun : Bool) (line : List ℕ) (at : ℕ) (bytes : List ℕ) : Type 0 where
  pub begun_after : Bool
  pub line_after : List ℕ
  pub same : (next : List ℕ) → end_from begun line at (bytes ++ next) ≡ end_from begun_after line_after (at + length bytes) next

pub opened : (begun : Bool) (line : List ℕ) (at : ℕ) (bytes : List ℕ) → end_from begun line at bytes ≡ None → Open begun line at bytes
opened begun line at [] e = record { begun_after = begun; line_after = line; same = λ next. ap (λ k. end_from begun line k next) (omega arith) }
opened begun line at (b ∷ bs) e =
    by_byte (λ (g : GoesOn begun line at b) h. opened g.begun_after g.line_after (at + 1) bs h) (one_byte begun line at b)
  where
    by_byte : ((g : GoesOn begun line at b) → end_from g.begun_after g.line_after (at + 1) bs ≡ None → Open g.begun_after g.line_after (at + 1) bs)
        → Stops begun line at b ⊎ GoesOn begun line at b → Open begun line at (b ∷ bs)
    by_byte f (inl s) = absurd (none-some (at + 1) (sym e ∙ s.same bs))
    by_byte f (inr g) =
        let rest : Open g.begun_after g.line_after (at + 1) bs = f g (sym (g.same bs) ∙ e) in
        record {
          begun_after = rest.begun_after;
          line_after = rest.line_after;
          same = λ next. g.same (bs ++ next) ∙ (rest.same next ∙ ap (λ k. end_from rest.begun_after rest.line_after k next) (omega arith));
        }

pub feeds-append : (xs ys : List ℕ) → feeds (xs ++ ys) ≡ feeds xs + feeds ys
feeds-append [] ys = omega arith
feeds-append (x ∷ xs) ys = omega (arith, feeds-append xs ys)

pub feeds-take : (n : ℕ) (xs : List ℕ) → feeds (take n xs) ≤ feeds xs
feeds-take n xs = omega (arith, feeds-append (take n xs) (drop n xs), ap feeds (take-append-drop n xs))

take_past : (xs ys : List ℕ) (k : ℕ) → take (length xs + k) (xs ++ ys) ≡ xs ++ take k ys
take_past [] ys k = ap (λ m. take m ys) (omega arith)
take_past (x ∷ xs) ys k =
    let e : length (x ∷ xs) + k ≡ suc (length xs + k) = omega arith in
    ap (λ m. take m (x ∷ (xs ++ ys))) e ∙ ap (λ l. x ∷ l) (take_past xs ys k)

-- an end that is found only after the list has more line feeds before it than the list
pub late : (bytes next : List ℕ) (n : ℕ) → head_end bytes ≡ None → head_end (bytes ++ next) ≡ Some n
    → (length bytes < n) × (feeds bytes < feeds (take n (bytes ++ next)))
late bytes next n e f =
    let o : Open false [] 0 bytes = opened false [] 0 bytes e in
    after (ended o.begun_after o.line_after (0 + length bytes) next n (sym (o.same next) ∙ f))
  where
    after : {g : Bool} {l : List ℕ} → Ended g l (0 + length bytes) next n → (length bytes < n) × (feeds bytes < feeds (take n (bytes ++ next)))
    after x =
        let place : n ≡ length bytes + (x.more + 1) = omega (arith, x.place) in
        let prefix : take n (bytes ++ next) ≡ bytes ++ take (x.more + 1) next = ap (λ m. take m (bytes ++ next)) place ∙ take_past bytes next (x.more + 1) in
        (omega (arith, place), rw prefix (omega (arith, feeds-append bytes (take (x.more + 1) next), x.feed)))

lines_feed : (line : List ℕ) (b : ℕ) (bs : List ℕ) → b ≡ 10 → head_lines_from line (b ∷ bs) ≡ line ∷ head_lines_from [] bs
unfolding head_lines_from
lines_feed line b bs e = rw e

lines_within : (line : List ℕ) (b : ℕ) (bs : List ℕ) → b ≢ 10 → head_lines_from line (b ∷ bs) ≡ head_lines_from (line ++ b ∷ []) bs
unfolding head_lines_from
lines_within line b bs e = rw (ne_eqb b 10 e)

among_stop : (begun : Bool) (at : ℕ) (line : List ℕ) (lines : List (List ℕ)) → (begun && is_blank_line line) ≡ true
    → end_among begun at (line ∷ lines) ≡ Some (at + length line + 1)
unfolding end_among
among_stop begun at line lines h = rw h

among_go : (begun : Bool) (at : ℕ) (line : List ℕ) (lines : List (List ℕ)) → (begun && is_blank_line line) ≡ false
    → end_among begun at (line ∷ lines) ≡ end_among (begun || not (is_blank_line line)) (at + length line + 1) lines
unfolding end_among
among_go begun at line lines h = rw h

among_none : (begun : Bool) (at : ℕ) (line : List ℕ) → end_among begun at (head_lines_from line []) ≡ None
unfolding end_among head_lines_from
among_none begun at line = refl

-- the end by lines is the end byte by byte
pub by_lines : (begun : Bool) (start : ℕ) (line : List ℕ) (at : ℕ) (bytes : List ℕ) → at ≡ start + length line
    → end_among begun start (head_lines_from line bytes) ≡ end_from begun line at bytes
by_lines begun start line at [] e = among_none begun start line ∙ sym (end_none begun line at)
by_lines begun start line at (b ∷ bs) e =
    by_byte (λ o n m. by_lines o n [] m bs) (λ l m. by_lines begun start l m bs) (cases_eq b 10) (cases_Bool (begun && is_blank_line line))
  where
    place : start + length line + 1 ≡ at + 1
    place = omega (arith, e)

    by_byte : ((o : Bool) (n m : ℕ) → m ≡ n + 0 → end_among o n (head_lines_from [] bs) ≡ end_from o [] m bs)
        → ((l : List ℕ) (m : ℕ) → m ≡ start + length l → end_among begun start (head_lines_from l bs) ≡ end_from begun l m bs)
        → (b ≡ 10) ⊎ (b ≢ 10) → ((begun && is_blank_line line) ≡ true) ⊎ ((begun && is_blank_line line) ≡ false)
        → end_among begun start (head_lines_from line (b ∷ bs)) ≡ end_from begun line at (b ∷ bs)
    by_byte f g (inl t) (inl h) =
        ap (end_among begun start) (lines_feed line b bs t) ∙ (among_stop begun start line (head_lines_from [] bs) h
        ∙ (ap Some place ∙ sym (end_last begun line at b bs t h)))
    by_byte f g (inl t) (inr h) =
        ap (end_among begun start) (lines_feed line b bs t) ∙ (among_go begun start line (head_lines_from [] bs) h
        ∙ (f (begun || not (is_blank_line line)) (start + length line + 1) (at + 1) (omega (arith, e)) ∙ sym (end_line begun line at b bs t h)))
    by_byte f g (inr t) h =
        ap (end_among begun start) (lines_within line b bs t)
        ∙ (g (line ++ b ∷ []) (at + 1) (omega (arith, e, length-append line (b ∷ []))) ∙ sym (end_within begun line at b bs t))

pub same_end : (bytes : List ℕ) → end_of_head bytes ≡ head_end bytes
same_end bytes = by_lines false 0 [] 0 bytes refl
