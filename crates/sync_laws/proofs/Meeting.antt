-- What a primary's connection wrote of a mirror's request is an answer of the world, or is not
-- taken.
use Rattle.std.proofs.Common.{◌≡◌, ◌⊎◌, inl, inr, ℕ, ◌≤◌, ◌||◌, List, [], ◌∷◌, ◌++◌, length, take, drop, Bool, true, false, None, Some}
use Rattle.std.proofs.Common.{append-nil, arith, take-append-drop, length-append, length-take, refl, subst, sym, ap, ◌∙◌}
use Rattle.std.proofs.lemmas.List.{take_all}
use Rattle.std.proofs.lemmas.Bool.{true≢false}
use Rattle.std.specs.List.{AllByRecursion}
use Rattle.std.specs.Str.{bytes_eq}
use Rattle.td_base.specs.declared.report.Ask.{Ask}
use Rattle.td_base.specs.declared.report.Ask.TheVariants as ask
use Rattle.td_base.specs.declared.report.End.{End}
use Rattle.td_base.specs.declared.report.End.TheVariants as end
use Rattle.td_base.specs.declared.report.Role.{Role}
use Rattle.td_base.specs.declared.report.Role.TheVariants.{Primary}
use Rattle.td_base.specs.declared.upstream.Exchange.{Exchange}
use Rattle.catalogue.specs.Histories.{IsHistory}
use Rattle.catalogue.specs.Releases.{ReleaseData}
use Rattle.http_answer.specs.Replies.{IsFixedStatus, fixed, reply}
use Rattle.http_answer.specs.declared.answer.Answer.{Answer}
use Rattle.http_request.specs.Asks.{Asks, Bad, Ending, Gives, IsPrefixOf, Rest}
use Rattle.http_request.specs.Steps.{IsStep, Outcome, Taken, Waiting}
use Rattle.http_request.specs.declared.head.Head.{Head}
use Rattle.negotiate.specs.declared.choosing.Format.{Format}
use Rattle.zone_meaning.specs.Sound.{IsSound}
use Rattle.actions.specs.Action.{action, answer_for}
use Rattle.connection.specs.FaultCounts.{FaultCounts}
use Rattle.connection.specs.Replies.{replies, replies_after, reply_at}
use Rattle.connection.specs.Served.{Begins, ByInput, ByRefusal, ByRequest, CutsRefusal, CutsReply, EndsSo, Finish, FinishesBy, IsStarved, IsTold}
use Rattle.connection.specs.Served.{Served, Transcript, farewell}
use Rattle.connection.specs.Serving.{answer_at}
use Rattle.sync_core.specs.declared.heard_type.Heard.{Heard}
use Rattle.sync_core.proofs.lemmas.Puts.{bytes_same, same_bytes}
use Rattle.mirror.specs.Understanding.{Means}
use Rattle.mirror.specs.declared.limits.TheConstants.{MOST_ANSWER}
use Rattle.mirror.specs.declared.understood_type.Understood.TheVariants as understood
use Rattle.sync_world.specs.Hearing.{IsDataHeadOf, action_asked}
use Rattle.sync_world.specs.Primaries.{IsPlace}
use Rattle.mirror_world.specs.Answers.{IsDataRequestFor, reply_over}
use Rattle.mirror_world.proofs.lemmas.Histories.{front_history}
use Rattle.sync_laws.specs.WorldAnswers.{IsAnswerAtPlace, IsNotTaken}
use Rattle.sync_laws.proofs.Cutting.{IsPartOf, part_taken}
use Rattle.sync_laws.proofs.WholeAnswers.{Fit}

-- ---- one role

asked_alike : (G : List ReleaseData) (role : Role) (head : Head) (a : Ask) → answer_for G role head (action_asked a) ≡ answer_for G Primary head (action_asked a)
asked_alike G role head (ask.List None) = refl
asked_alike G role head (ask.List (Some token)) = refl
asked_alike G role head (ask.Get name) = refl

pub role_alike : (f : Format) (G : List ReleaseData) (role : Role) (a : Ask) (head : Head) → IsDataHeadOf f a head
    → action G role head ≡ action G Primary head
unfolding action
role_alike f G role a head k =
    ap (answer_for G role head) k.target ∙ asked_alike G role head a ∙ sym (ap (answer_for G Primary head) k.target)

-- ---- the heads of a request

-- only one step is possible, and what is given stays given
abbrev pub OneStep : Type 0
OneStep = (bytes : List ℕ) (one other : Outcome) → IsStep bytes one → IsStep bytes other → one ≡ other

abbrev pub Feeds : Type 0
Feeds = (bytes piece : List ℕ) (heads : List Head) (held : List ℕ) → Gives bytes heads held → Gives (bytes ++ piece) heads (held ++ piece)

abbrev pub Prefixes : Type 0
Prefixes =
    (bytes next : List ℕ) (heads : List Head) (end : Ending) (all : List Head) (all_end : Ending) → Asks bytes heads end → Asks (bytes ++ next) all all_end
    → IsPrefixOf heads end all all_end

gives_of : (bytes : List ℕ) (heads : List Head) (held : List ℕ) → Asks bytes heads (Rest held) → Gives bytes heads held
gives_of bytes [] held asks = asks.1
gives_of bytes (head ∷ heads) held asks = (asks.0, asks.1, gives_of (drop asks.0 bytes) heads held asks.2)

abbrev IsNoneOrOne : Head → List Head → Type 0
IsNoneOrOne head heads = (heads ≡ []) ⊎ (heads ≡ head ∷ [])

one_given : OneStep → (bytes : List ℕ) (heads : List Head) (held : List ℕ) (head : Head) → Gives bytes heads held → Asks bytes (head ∷ []) (Rest [])
    → IsNoneOrOne head heads
one_given one bytes [] held head gives asks = inl refl
one_given one bytes (h ∷ []) held head gives asks =
    let e = one bytes (Taken h gives.0) (Taken head asks.0) gives.1 asks.1 in
    let same : h ≡ head = cc in
    inr (ap (λ x. x ∷ []) same)
one_given one bytes (h ∷ k ∷ ks) held head gives asks =
    let e = one bytes (Taken h gives.0) (Taken head asks.0) gives.1 asks.1 in
    let size : gives.0 ≡ asks.0 = cc in
    let next = subst (λ n. Gives (drop n bytes) (k ∷ ks) held) size gives.2 in
    let wrong = one (drop asks.0 bytes) (Taken k next.0) Waiting next.1 (asks.2).0 in
    absurd (cc)

-- ---- what was written

-- a part of the whole reply over some releases, or of the refusal for want of memory
data Wrote (H : List ReleaseData) (head : Head) (written : List ℕ) : Type 0 where
  by_reply : (place : ℕ) → IsPlace H place → IsPartOf (reply_over (take place H) head) written → Wrote H head written
  by_refusal : IsPartOf (fixed 503) written → Wrote H head written

nothing : (H : List ReleaseData) (head : Head) (written : List ℕ) → written ≡ [] → Wrote H head written
nothing H head written none = by_refusal (record { after = fixed 503; more = []; is = ap (λ l. l ++ fixed 503) none ∙ sym (append-nil (fixed 503)) })

or_false : (b : Bool) → (b || false) ≡ b
or_false true = refl
or_false false = refl

module _ (f : Format) (H : List ReleaseData) (role : Role) (a : Ask) (head : Head) (k : IsDataHeadOf f a head) where
  abbrev answer : ℕ → Head → Answer
  answer = answer_at H role

  -- the reply to the one request
  one_reply : (place : ℕ) → reply_at answer 0 head place ≡ reply_over (take place H) head
  one_reply place =
      ap (λ b. reply (action (take place H) role head) head.head_only b) (or_false head.close)
      ∙ ap (λ x. reply x head.head_only head.close) (role_alike f (take place H) role a head k)

  whole_reply : (place : ℕ) (written : List ℕ) → IsPlace H place → written ≡ reply_at answer 0 head place → Wrote H head written
  whole_reply place written is e =
      by_reply place is
      (record { after = []; more = []; is = ap (λ l. l ++ []) (e ∙ one_reply place) })

  cut_reply : (place sent : ℕ) (written : List ℕ) → IsPlace H place → written ≡ take sent (reply_at answer 0 head place) → Wrote H head written
  cut_reply place sent written is e =
      by_reply place is (record {
        after = drop sent (reply_at answer 0 head place);
        more = [];
        is = ap (λ l. l ++ drop sent (reply_at answer 0 head place)) e ∙ take-append-drop sent (reply_at answer 0 head place) ∙ one_reply place
            ∙ sym (append-nil (reply_over (take place H) head));
      })

  longer_reply : (place : ℕ) (written more : List ℕ) → IsPlace H place → written ≡ reply_at answer 0 head place ++ more → Wrote H head written
  longer_reply place written more is e =
      by_reply place is (record { after = []; more = more; is = append-nil written ∙ e ∙ ap (λ l. l ++ more) (one_reply place) })

  cut_refusal : (sent : ℕ) (written : List ℕ) → written ≡ take sent (fixed 503) → Wrote H head written
  cut_refusal sent written e =
      by_refusal (record {
        after = drop sent (fixed 503);
        more = [];
        is = ap (λ l. l ++ drop sent (fixed 503)) e ∙ take-append-drop sent (fixed 503) ∙ sym (append-nil (fixed 503));
      })

  replies_of_one : (place : ℕ) → replies answer (head ∷ []) (place ∷ []) ≡ reply_at answer 0 head place
  unfolding replies_after
  replies_of_one place = append-nil (reply_at answer 0 head place)

  no_replies : (places : List ℕ) → replies answer [] places ≡ []
  unfolding replies_after
  no_replies places = refl

  -- all replies to these heads, none or one
  all_replies : (heads : List Head) (places written : List ℕ) → IsNoneOrOne head heads → length places ≡ length heads
      → AllByRecursion (IsPlace H) places → written ≡ replies answer heads places → Wrote H head written
  all_replies heads places written (inl none) placed within e =
      nothing H head written (e ∙ ap (λ hs. replies answer hs places) none ∙ no_replies places)
  all_replies heads [] written (inr one) placed within e =
      let size : length heads ≡ 1 = ap length one in absurd (omega (arith, placed, size))
  all_replies heads (place ∷ []) written (inr one) placed within e =
      whole_reply place written within.0 (e ∙ ap (λ hs. replies answer hs (place ∷ [])) one ∙ replies_of_one place)
  all_replies heads (place ∷ other ∷ places) written (inr one) placed within e =
      let size : length heads ≡ 1 = ap length one in absurd (omega (arith, placed, size))

  -- the tail of what was written after some replies is a part of the refusal
  told_after : (heads : List Head) (places replied written tail : List ℕ) → IsNoneOrOne head heads → length places ≡ length heads
      → AllByRecursion (IsPlace H) places → replied ≡ replies answer heads places → written ≡ replied ++ tail → IsPartOf (fixed 503) tail
      → Wrote H head written
  told_after heads places replied written tail (inl none) placed within e w part =
      let nothing_yet : replied ≡ [] = e ∙ ap (λ hs. replies answer hs places) none ∙ no_replies places in
      by_refusal (record { after = part.after; more = part.more; is = ap (λ l. l ++ part.after) (w ∙ ap (λ l. l ++ tail) nothing_yet) ∙ part.is })
  told_after heads [] replied written tail (inr one) placed within e w part =
      let size : length heads ≡ 1 = ap length one in absurd (omega (arith, placed, size))
  told_after heads (place ∷ []) replied written tail (inr one) placed within e w part =
      let whole : replied ≡ reply_at answer 0 head place = e ∙ ap (λ hs. replies answer hs (place ∷ [])) one ∙ replies_of_one place in
      longer_reply place written tail within.0 (w ∙ ap (λ l. l ++ tail) whole)
  told_after heads (place ∷ other ∷ places) replied written tail (inr one) placed within e w part =
      let size : length heads ≡ 1 = ap length one in absurd (omega (arith, placed, size))

  -- ---- a connection whose reads gave the beginning of the request

  module _ (one : OneStep) (feeds : Feeds) (prefixes : Prefixes) (request : List ℕ) (asks : Asks request (head ∷ []) (Rest [])) (s : Transcript)
      (more : List ℕ) (begins : request ≡ s.read ++ more) (within : AllByRecursion (IsPlace H) s.places) where
    none_or_one : (heads : List Head) (held : List ℕ) → Gives s.read heads held → IsNoneOrOne head heads
    none_or_one heads held gives =
        one_given one request heads (held ++ more) head
        (subst (λ b. Gives b heads (held ++ more)) (sym begins) (feeds s.read more heads held gives)) asks

    never_bad : (heads : List Head) (status : ℕ) → Asks s.read heads (Bad status) → ⊥
    never_bad heads status bad =
        let k = prefixes s.read more heads (Bad status) (head ∷ []) (Rest []) bad (subst (λ b. Asks b (head ∷ []) (Rest [])) begins asks) in
        let wrong : Rest [] ≡ Bad status = k.bad.1 in
        absurd (cc)

    of_finish : (heads : List Head) (finish : Finish) → FinishesBy s heads finish → length s.places ≡ length heads
        → s.written ≡ replies answer heads s.places ++ farewell finish → Wrote H head s.written
    of_finish heads ByRequest finishes placed e =
        all_replies heads s.places s.written (none_or_one heads finishes.held finishes.gives) placed within
        (e ∙ append-nil (replies answer heads s.places))
    of_finish heads (ByRefusal status) finishes placed e = absurd (never_bad heads status finishes.0)
    of_finish heads ByInput finishes placed e =
        all_replies heads s.places s.written (none_or_one heads finishes.0 (gives_of s.read heads finishes.0 finishes.1)) placed within
        (e ∙ append-nil (replies answer heads s.places))

    -- a reply that was cut is that to the one request
    of_cut : (before : List Head) (last : Head) (held places : List ℕ) (place sent : ℕ) → Gives s.read (before ++ last ∷ []) held
        → length places ≡ length before → s.places ≡ places ++ place ∷ []
        → s.written ≡ replies answer before places ++ take sent (reply_at answer (length before) last place) → Wrote H head s.written
    of_cut [] last held [] place sent gives placed are e = by (none_or_one (last ∷ []) held gives)
      where
        by : IsNoneOrOne head (last ∷ []) → Wrote H head s.written
        by (inl none) = absurd (cc)
        by (inr is) =
            let same : last ≡ head = cc in
            let at : AllByRecursion (IsPlace H) (place ∷ []) = subst (AllByRecursion (IsPlace H)) are within in
            let w : s.written ≡ take sent (reply_at answer 0 head place) =
            e ∙ ap (λ l. l ++ take sent (reply_at answer 0 last place)) (no_replies []) ∙ ap (λ (h : Head). take sent (reply_at answer 0 h place)) same
            in
            cut_reply place sent s.written at.0 w
    of_cut [] last held (p ∷ ps) place sent gives placed are e = absurd (omega (arith, placed))
    of_cut (b ∷ bs) last held places place sent gives placed are e = by (none_or_one (b ∷ bs ++ last ∷ []) held gives)
      where
        by : IsNoneOrOne head (b ∷ bs ++ last ∷ []) → Wrote H head s.written
        by (inl none) = absurd (cc)
        by (inr is) = let size : length (b ∷ bs ++ last ∷ []) ≡ 1 = ap length is in absurd (omega (arith, size, length-append bs (last ∷ [])))

    begun_heads : (heads : List Head) (begun : List ℕ) → Begins s.read heads begun → IsNoneOrOne head heads
    begun_heads heads [] k = none_or_one heads k.0 k.1
    begun_heads [] (place ∷ []) k = inl refl
    begun_heads (h ∷ hs) (place ∷ []) k = by (none_or_one (h ∷ hs ++ k.0 ∷ []) k.1 k.2)
      where
        by : IsNoneOrOne head (h ∷ hs ++ k.0 ∷ []) → IsNoneOrOne head (h ∷ hs)
        by (inl none) = absurd (cc)
        by (inr is) = let size : length (h ∷ hs ++ k.0 ∷ []) ≡ 1 = ap length is in absurd (omega (arith, size, length-append hs (k.0 ∷ [])))
    begun_heads heads (place ∷ other ∷ places) k = absurd k

    front_within : (xs ys : List ℕ) → AllByRecursion (IsPlace H) (xs ++ ys) → AllByRecursion (IsPlace H) xs
    front_within [] ys all = tt
    front_within (x ∷ xs) ys all = (all.0, front_within xs ys all.1)

    of_starved : (replied tail : List ℕ) → IsStarved answer (record s { written = replied }) → s.written ≡ replied ++ tail → IsPartOf (fixed 503) tail
        → Wrote H head s.written
    of_starved replied tail k w part =
        told_after k.heads k.places replied s.written tail (begun_heads k.heads k.begun k.begins) k.placed.0
        (front_within k.places k.begun (subst (AllByRecursion (IsPlace H)) k.placed.1 within)) k.written w part

    wrote : (before now : FaultCounts) (e : End) → EndsSo answer s before now e → Wrote H head s.written
    wrote before now end.Closed k = of_finish k.heads k.finish k.finishes k.placed k.written
    wrote before now end.ReadFault k =
        all_replies k.heads s.places s.written (none_or_one k.heads k.held (gives_of s.read k.heads k.held k.asks)) k.placed within k.written
    wrote before now end.WriteFault k = by k.cut
      where
        by : CutsReply answer s ⊎ CutsRefusal answer s → Wrote H head s.written
        by (inl c) = of_cut c.before c.last c.held c.places c.place c.sent c.gives c.placed.0 c.placed.1 c.written
        by (inr c) = absurd (never_bad c.heads c.status c.asks)
    wrote before now end.NoMemory k = by k.told
      where
        by : IsTold k.replied s.written before now → Wrote H head s.written
        by (inl told) = of_starved k.replied (fixed 503) k.starved told.0 (record { after = []; more = []; is = refl })
        by (inr told) =
            of_starved k.replied (take told.0 (fixed 503)) k.starved told.1
            (record {
              after = drop told.0 (fixed 503);
              more = [];
              is = take-append-drop told.0 (fixed 503) ∙ sym (append-nil (fixed 503));
            })

-- ---- what of it is taken

abbrev pub Whole : Format → Type 0
Whole f =
    (G : List ReleaseData) (a : Ask) (head : Head) (bytes after more : List ℕ) (h : Heard) → IsHistory IsSound G → 1 ≤ length G → IsDataHeadOf f a head
    → head.head_only ≡ false → bytes ++ after ≡ reply_over G head ++ more → Means a bytes (understood.Hears h) → bytes ≡ reply_over G head

abbrev pub NoRefusal : Type 0
NoRefusal =
    (a : Ask) (status : ℕ) (bytes after more : List ℕ) (h : Heard) → IsFixedStatus status → bytes ++ after ≡ fixed status ++ more
    → Means a bytes (understood.Hears h) → ⊥

module _ (f : Format) (fit : Fit f) (whole : Whole f) (refusal : NoRefusal) (H : List ReleaseData) (history : IsHistory IsSound H) (a : Ask) (x : Exchange)
    (head : Head) (k : IsDataRequestFor f a x.request head) (most : x.most ≡ MOST_ANSWER) (written : List ℕ) (received : x.answer ≡ take x.most written) where
  of_refusal : IsPartOf (fixed 503) written → IsNotTaken a x.answer
  of_refusal part h means_so =
      let cut = part_taken (fixed 503) written x.most part in
      refusal a 503 x.answer cut.after cut.more h (inr (inr (inr refl))) (ap (λ l. l ++ cut.after) received ∙ cut.is) means_so

  of_reply : (place : ℕ) → IsPlace H place → IsPartOf (reply_over (take place H) head) written
      → IsAnswerAtPlace f H a x ⊎ IsNotTaken a x.answer
  of_reply place is part = by (bytes_eq x.answer (reply_over (take place H) head)) refl
    where
      G : List ReleaseData
      G = take place H

      some : 1 ≤ length G
      some = let low = is.0 in let high = is.1 in omega (arith, low, high, length-take place H)

      by : (b : Bool) → bytes_eq x.answer (reply_over G head) ≡ b → IsAnswerAtPlace f H a x ⊎ IsNotTaken a x.answer
      by true same =
          let few = fit G a head (front_history H place history) some k.asks_so in
          let all : take x.most (reply_over G head) ≡ reply_over G head =
          ap (λ n. take n (reply_over G head)) most ∙ take_all MOST_ANSWER (reply_over G head) (omega (arith, few))
          in
          inl (place, is, record { head = head; is_request = k; most = most; is_answer = bytes_same x.answer (reply_over G head) same ∙ sym all })
      by false other =
          inr (λ h means_so.
          let cut = part_taken (reply_over G head) written x.most part in
          let begins = ap (λ l. l ++ cut.after) received ∙ cut.is in
          let is_whole = whole G a head x.answer cut.after cut.more h (front_history H place history) some k.asks_so k.is_get begins means_so in
          let yes : bytes_eq x.answer (reply_over G head) ≡ true = subst (λ w. bytes_eq x.answer w ≡ true) is_whole (same_bytes x.answer) in
          absurd (true≢false (sym yes ∙ other)))

  taken_or_not : Wrote H head written → IsAnswerAtPlace f H a x ⊎ IsNotTaken a x.answer
  taken_or_not (by_reply place is part) = of_reply place is part
  taken_or_not (by_refusal part) = inr (of_refusal part)

pub halves_meet : (f : Format) → Fit f → Whole f → NoRefusal → OneStep → Feeds → Prefixes → (H : List ReleaseData) (role : Role) (a : Ask) (x : Exchange)
    (head : Head) (s : Transcript) (more : List ℕ) (before now : FaultCounts) (e : End) → IsHistory IsSound H → IsDataRequestFor f a x.request head
    → x.most ≡ MOST_ANSWER → Served (answer_at H role) (length H) s before now e → x.request ≡ s.read ++ more → x.answer ≡ take x.most s.written
    → IsAnswerAtPlace f H a x ⊎ IsNotTaken a x.answer
halves_meet f fit whole refusal one feeds prefixes H role a x head s more before now e history k most served begins received =
    taken_or_not f fit whole refusal H history a x head k most s.written received
    (wrote f H role a head k.asks_so one feeds prefixes x.request k.reads s more begins served.places.within before now e served.ends)
