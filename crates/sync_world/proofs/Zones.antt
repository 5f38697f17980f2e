-- What a name is in one release and what a list of its zones says of it.
use Rattle.std.proofs.Common.{◌≡◌, ℕ, Bool, true, false, cond, ◌||◌, None, Some, List, [], ◌∷◌, ◌++◌, refl, sym, ap, ◌∙◌, subst, map, nat_lt}
use Rattle.std.specs.Prelude.{option_map}
use Rattle.std.specs.List.{AllByRecursion, IsDistinct, filter, list_any}
use Rattle.std.specs.Str.{bytes_eq}
use Rattle.std.specs.Cmp.Lexicographic.{pointwise, pointwise_decides}
use Rattle.std.proofs.lemmas.List.Folds.{list_any-append}
use Rattle.std.proofs.lemmas.Slice.Eq.{bytes_eq-Decides}
use Rattle.catalogue.specs.Releases.{ContentData, ReleaseData, same_content, names_of}
use Rattle.catalogue.proofs.lemmas.SameZones.{same_is}
use Rattle.catalogue.specs.Histories.{EntryData, entry_from}
use Rattle.json_forms.specs.declared.zone_list.ListZone.{ListZone}
use Rattle.sync_world.proofs.Looks.{known}
use Rattle.sync_core.specs.Steps.{is_alias}
use Rattle.actions.specs.Listing.{list_zone}
use Rattle.catalogue.specs.Lookups.{named, zone_at}
use Rattle.sync_core.proofs.lemmas.Puts.{same_bytes, bytes_same}

or_none : (a b : Bool) → (a || b) ≡ false → (a ≡ false) × (b ≡ false)
or_none false b h = (refl, h)
or_none true b h = absurd (cc)

or_true : (b : Bool) → (b || true) ≡ true
or_true true = refl
or_true false = refl

pub same_itself : (c : ContentData) → same_content c c ≡ true
same_itself c =
    let aliases : pointwise bytes_eq c.aliases c.aliases ≡ true = (pointwise_decides bytes_eq-Decides c.aliases c.aliases).1 refl in
    rw (same_bytes c.tzid, aliases) (same_bytes c.file)

abbrev pub Distinct : List ContentData → Type 0
Distinct cs = IsDistinct bytes_eq (names_of cs)

abbrev pub has_text : List (List ℕ) → List ℕ → Bool
has_text xs t = list_any (bytes_eq t) xs

-- whether the name is an alias of a content
abbrev pub aliased : List ContentData → List ℕ → Bool
aliased cs t = list_any (λ c. has_text c.aliases t) cs

abbrev pub among : ContentData → List ContentData → Bool
among c cs = list_any (same_content c) cs

none_equal : (x : List ℕ) (ys : List (List ℕ)) → AllByRecursion (λ y. bytes_eq x y ≡ false) ys → has_text ys x ≡ false
none_equal x [] h = refl
none_equal x (y ∷ ys) h = rw h.0 (none_equal x ys h.1)

apart : (xs ys : List (List ℕ)) (t : List ℕ) → IsDistinct bytes_eq (xs ++ ys) → has_text xs t ≡ true → has_text ys t ≡ false
unfolding IsDistinct
apart [] ys t d h = absurd (cc)
apart (x ∷ xs) ys t d h = by (apart xs ys t d.1) (bytes_eq t x) refl h
  where
    by : (has_text xs t ≡ true → has_text ys t ≡ false) → (b : Bool) → bytes_eq t x ≡ b → (b || has_text xs t) ≡ true → has_text ys t ≡ false
    by again true e k =
        let none : has_text (xs ++ ys) x ≡ false = none_equal x (xs ++ ys) d.0 in
        let both : (has_text xs x || has_text ys x) ≡ false = sym (list_any-append (bytes_eq x) xs ys) ∙ none in
        subst (λ z. has_text ys z ≡ false) (sym (bytes_same t x e)) (or_none (has_text xs x) (has_text ys x) both).1
    by again false e k = again k

back : (xs ys : List (List ℕ)) → IsDistinct bytes_eq (xs ++ ys) → IsDistinct bytes_eq ys
unfolding IsDistinct
back [] ys d = d
back (x ∷ xs) ys d = back xs ys d.1

head_apart : (c : ContentData) (cs : List ContentData) (t : List ℕ) → Distinct (c ∷ cs) → has_text (c.tzid ∷ c.aliases) t ≡ true
    → has_text (names_of cs) t ≡ false
head_apart c cs t d h = apart (c.tzid ∷ c.aliases) (names_of cs) t d h

pub rest_distinct : (c : ContentData) (cs : List ContentData) → Distinct (c ∷ cs) → Distinct cs
rest_distinct c cs d = back (c.tzid ∷ c.aliases) (names_of cs) d

own_not_alias : (c : ContentData) (cs : List ContentData) → Distinct (c ∷ cs) → has_text c.aliases c.tzid ≡ false
unfolding IsDistinct
own_not_alias c cs d =
    (or_none (has_text c.aliases c.tzid) (has_text (names_of cs) c.tzid)
    (sym (list_any-append (bytes_eq c.tzid) c.aliases (names_of cs)) ∙ none_equal c.tzid (c.aliases ++ names_of cs) d.0)).0

pub record IsNone (cs : List ContentData) (t : List ℕ) : Type 0 where
  pub at : zone_at cs t ≡ None
  pub not_alias : aliased cs t ≡ false
  pub not_name : has_text (names_of cs) t ≡ false

pub record IsZone (cs : List ContentData) (t : List ℕ) (c : ContentData) : Type 0 where
  pub at : zone_at cs t ≡ Some c
  pub named : named cs t ≡ Some c
  pub is : t ≡ c.tzid
  pub there : among c cs ≡ true
  pub not_alias : aliased cs t ≡ false

pub record IsAlias (cs : List ContentData) (t : List ℕ) (c : ContentData) : Type 0 where
  pub at : zone_at cs t ≡ None
  pub named : named cs t ≡ Some c
  pub has : has_text c.aliases t ≡ true
  pub there : among c cs ≡ true

pub data Role (cs : List ContentData) (t : List ℕ) : Type 0 where
  a_zone : (c : ContentData) → IsZone cs t c → Role cs t
  an_alias : (c : ContentData) → IsAlias cs t c → Role cs t
  no_name : IsNone cs t → Role cs t

pub absent : (cs : List ContentData) (t : List ℕ) → has_text (names_of cs) t ≡ false → IsNone cs t
absent [] t h = record { at = refl; not_alias = refl; not_name = refl }
absent (c ∷ cs) t h =
    let one = or_none (bytes_eq t c.tzid) (has_text (c.aliases ++ names_of cs) t) h in
    let two = or_none (has_text c.aliases t) (has_text (names_of cs) t) (sym (list_any-append (bytes_eq t) c.aliases (names_of cs)) ∙ one.1) in
    let rest = absent cs t two.1 in
    record { at = rw one.0 rest.at; not_alias = rw two.0 rest.not_alias; not_name = h }

pub more_there : (c d : ContentData) (cs : List ContentData) → among c cs ≡ true → among c (d ∷ cs) ≡ true
more_there c d cs h = rw h (or_true (same_content c d))

pub role : (cs : List ContentData) (t : List ℕ) → Distinct cs → Role cs t
role [] t d = no_name (absent [] t refl)
role (c ∷ cs) t d = by (role cs t (rest_distinct c cs d)) (bytes_eq t c.tzid) refl
  where
    first : bytes_eq t c.tzid ≡ true → Role (c ∷ cs) t
    first e =
        let is : t ≡ c.tzid = bytes_same t c.tzid e in
        let rest = absent cs t (head_apart c cs t d (rw e)) in
        let own : has_text c.aliases t ≡ false = subst (λ z. has_text c.aliases z ≡ false) (sym is) (own_not_alias c cs d) in
        a_zone c (record { at = rw e; named = rw e; is = is; there = rw (same_itself c); not_alias = rw own rest.not_alias })

    alias : bytes_eq t c.tzid ≡ false → has_text c.aliases t ≡ true → Role (c ∷ cs) t
    alias e h =
        let rest = absent cs t (head_apart c cs t d (rw (e, h))) in
        an_alias c (record { at = rw e rest.at; named = rw (e, h); has = h; there = rw (same_itself c) })

    after_zone : bytes_eq t c.tzid ≡ false → has_text c.aliases t ≡ false → Role cs t → Role (c ∷ cs) t
    after_zone e h (a_zone z is) = a_zone z (record {
      at = rw e is.at;
      named = rw (e, h) is.named;
      is = is.is;
      there = more_there z c cs is.there;
      not_alias = rw h is.not_alias;
    })
    after_zone e h (an_alias z is) = an_alias z (record { at = rw e is.at; named = rw (e, h) is.named; has = is.has; there = more_there z c cs is.there })
    after_zone e h (no_name is) = no_name (absent (c ∷ cs) t (rw e (list_any-append (bytes_eq t) c.aliases (names_of cs) ∙ rw h is.not_name)))

    other : Role cs t → (b : Bool) → has_text c.aliases t ≡ b → bytes_eq t c.tzid ≡ false → Role (c ∷ cs) t
    other rest true h e = alias e h
    other rest false h e = after_zone e h rest

    by : Role cs t → (b : Bool) → bytes_eq t c.tzid ≡ b → Role (c ∷ cs) t
    by rest true e = first e
    by rest false e = other rest (has_text c.aliases t) refl e

-- a content of the release is the zone with its identifier
pub among_at : (cs : List ContentData) (c : ContentData) → Distinct cs → among c cs ≡ true → zone_at cs c.tzid ≡ Some c
among_at [] c d h = absurd (cc)
among_at (x ∷ cs) c d h = by (among_at cs c (rest_distinct x cs d)) (same_content c x) refl h
  where
    rest : zone_at cs c.tzid ≡ Some c → (b : Bool) → bytes_eq c.tzid x.tzid ≡ b → cond b (Some x) (zone_at cs c.tzid) ≡ Some c
    rest k true e =
        let none = (absent cs c.tzid (head_apart x cs c.tzid d (rw e))).at in
        absurd (cc)
    rest k false e = k

    by : (among c cs ≡ true → zone_at cs c.tzid ≡ Some c) → (b : Bool) → same_content c x ≡ b → (b || among c cs) ≡ true → zone_at (x ∷ cs) c.tzid ≡ Some c
    by again true e k =
        let is : c ≡ x = same_is c x e in
        let own : bytes_eq c.tzid x.tzid ≡ true = subst (λ (y : ContentData). bytes_eq c.tzid y.tzid ≡ true) is (same_bytes c.tzid) in
        rw own (ap Some (sym is))
    by again false e k = rest (again k) (bytes_eq c.tzid x.tzid) refl

pub among_alias : (cs : List ContentData) (c : ContentData) (t : List ℕ) → among c cs ≡ true → has_text c.aliases t ≡ true → aliased cs t ≡ true
among_alias [] c t h k = absurd (cc)
among_alias (x ∷ cs) c t h k = by (λ l. among_alias cs c t l k) (same_content c x) refl h
  where
    by : (among c cs ≡ true → aliased cs t ≡ true) → (b : Bool) → same_content c x ≡ b → (b || among c cs) ≡ true → aliased (x ∷ cs) t ≡ true
    by again true e l =
        let has : has_text x.aliases t ≡ true = subst (λ (y : ContentData). has_text y.aliases t ≡ true) (same_is c x e) k in
        rw has
    by again false e l = rw (again l) (or_true (has_text x.aliases t))

-- entries of contents, their releases and places given by f and g
abbrev pub entries_by : (ContentData → ReleaseData) → (ContentData → ℕ) → List ContentData → List EntryData
entries_by f g cs = map (λ c. entry_from (f c) (g c) c) cs

abbrev pub listed_by : (ContentData → ReleaseData) → (ContentData → ℕ) → ContentData → ListZone
listed_by f g c = list_zone (entry_from (f c) (g c) c)

abbrev pub changed_by : (ContentData → ReleaseData) → (ContentData → ℕ) → ℕ → List ContentData → List ListZone
changed_by f g n cs = map list_zone (filter (λ e. nat_lt n e.changed) (entries_by f g cs))

pub known_all : (f : ContentData → ReleaseData) (g : ContentData → ℕ) (cs : List ContentData) (t : List ℕ)
    → known (map list_zone (entries_by f g cs)) t ≡ option_map (listed_by f g) (zone_at cs t)
known_all f g [] t = refl
known_all f g (c ∷ cs) t = by (bytes_eq t c.tzid) (known_all f g cs t)
  where
    by : (b : Bool) → known (map list_zone (entries_by f g cs)) t ≡ option_map (listed_by f g) (zone_at cs t)
        → cond b (Some (listed_by f g c)) (known (map list_zone (entries_by f g cs)) t) ≡ option_map (listed_by f g) (cond b (Some c) (zone_at cs t))
    by true h = refl
    by false h = h

pub known_none : (f : ContentData → ReleaseData) (g : ContentData → ℕ) (n : ℕ) (cs : List ContentData) (t : List ℕ)
    → zone_at cs t ≡ None → known (changed_by f g n cs) t ≡ None
known_none f g n [] t h = refl
known_none f g n (c ∷ cs) t h = by (known_none f g n cs t) (bytes_eq t c.tzid) refl h
  where
    at_rest : known (changed_by f g n cs) t ≡ None → bytes_eq t c.tzid ≡ false → (b : Bool)
        → known (map list_zone (cond b (entry_from (f c) (g c) c ∷ filter (λ e. nat_lt n e.changed) (entries_by f g cs))
        (filter (λ e. nat_lt n e.changed) (entries_by f g cs)))) t ≡ None
    at_rest k e true = rw e k
    at_rest k e false = k

    by : (zone_at cs t ≡ None → known (changed_by f g n cs) t ≡ None) → (b : Bool) → bytes_eq t c.tzid ≡ b → cond b (Some c) (zone_at cs t) ≡ None
        → known (changed_by f g n (c ∷ cs)) t ≡ None
    by again true e k = absurd (cc)
    by again false e k = at_rest (again k) e (nat_lt n (g c))

pub known_some : (f : ContentData → ReleaseData) (g : ContentData → ℕ) (n : ℕ) (cs : List ContentData) (t : List ℕ) (z : ContentData)
    → Distinct cs → zone_at cs t ≡ Some z → known (changed_by f g n cs) t ≡ cond (nat_lt n (g z)) (Some (listed_by f g z)) None
known_some f g n [] t z d h = absurd (cc)
known_some f g n (c ∷ cs) t z d h = by (known_some f g n cs t z (rest_distinct c cs d)) (bytes_eq t c.tzid) refl h
  where
    here : bytes_eq t c.tzid ≡ true → zone_at cs t ≡ None → (b : Bool)
        → known (map list_zone (cond b (entry_from (f c) (g c) c ∷ filter (λ e. nat_lt n e.changed) (entries_by f g cs))
        (filter (λ e. nat_lt n e.changed) (entries_by f g cs)))) t
        ≡ cond b (Some (listed_by f g c)) None
    here e none true = rw e
    here e none false = known_none f g n cs t none

    there : bytes_eq t c.tzid ≡ false → (b : Bool) → known (changed_by f g n cs) t ≡ cond (nat_lt n (g z)) (Some (listed_by f g z)) None
        → known (map list_zone (cond b (entry_from (f c) (g c) c ∷ filter (λ e. nat_lt n e.changed) (entries_by f g cs))
        (filter (λ e. nat_lt n e.changed) (entries_by f g cs)))) t
        ≡ cond (nat_lt n (g z)) (Some (listed_by f g z)) None
    there e true k = rw e k
    there e false k = k

    by : (zone_at cs t ≡ Some z → known (changed_by f g n cs) t ≡ cond (nat_lt n (g z)) (Some (listed_by f g z)) None)
        → (b : Bool) → bytes_eq t c.tzid ≡ b → cond b (Some c) (zone_at cs t) ≡ Some z
        → known (changed_by f g n (c ∷ cs)) t ≡ cond (nat_lt n (g z)) (Some (listed_by f g z)) None
    by again true e k =
        let is : c ≡ z = cc in
        let none = (absent cs t (head_apart c cs t d (rw e))).at in
        subst (λ y. known (changed_by f g n (c ∷ cs)) t ≡ cond (nat_lt n (g y)) (Some (listed_by f g y)) None) is (here e none (nat_lt n (g c)))
    by again false e k = there e (nat_lt n (g c)) (again k)

pub alias_none : (f : ContentData → ReleaseData) (g : ContentData → ℕ) (n : ℕ) (cs : List ContentData) (t : List ℕ)
    → aliased cs t ≡ false → is_alias (changed_by f g n cs) t ≡ false
alias_none f g n [] t h = refl
alias_none f g n (c ∷ cs) t h = by (alias_none f g n cs t) (nat_lt n (g c))
  where
    parts : (has_text c.aliases t ≡ false) × (aliased cs t ≡ false)
    parts = or_none (has_text c.aliases t) (aliased cs t) h

    by : (aliased cs t ≡ false → is_alias (changed_by f g n cs) t ≡ false) → (b : Bool)
        → is_alias (map list_zone
        (cond b (entry_from (f c) (g c) c ∷ filter (λ e. nat_lt n e.changed) (entries_by f g cs))
        (filter (λ e. nat_lt n e.changed) (entries_by f g cs)))) t ≡ false
    by again true = rw parts.0 (again parts.1)
    by again false = again parts.1

pub alias_some : (f : ContentData → ReleaseData) (g : ContentData → ℕ) (n : ℕ) (cs : List ContentData) (t : List ℕ) (z : ContentData)
    → among z cs ≡ true → nat_lt n (g z) ≡ true → has_text z.aliases t ≡ true → is_alias (changed_by f g n cs) t ≡ true
alias_some f g n [] t z h lt k = absurd (cc)
alias_some f g n (c ∷ cs) t z h lt k = by (λ l. alias_some f g n cs t z l lt k) (same_content z c) refl h
  where
    here : has_text c.aliases t ≡ true → (b : Bool) → b ≡ true
        → is_alias (map list_zone
        (cond b (entry_from (f c) (g c) c ∷ filter (λ e. nat_lt n e.changed) (entries_by f g cs))
        (filter (λ e. nat_lt n e.changed) (entries_by f g cs)))) t ≡ true
    here has true e = rw has
    here has false e = absurd (cc)

    later : is_alias (changed_by f g n cs) t ≡ true → (b : Bool)
        → is_alias (map list_zone
        (cond b (entry_from (f c) (g c) c ∷ filter (λ e. nat_lt n e.changed) (entries_by f g cs))
        (filter (λ e. nat_lt n e.changed) (entries_by f g cs)))) t ≡ true
    later l true = rw l (or_true (has_text c.aliases t))
    later l false = l

    by : (among z cs ≡ true → is_alias (changed_by f g n cs) t ≡ true) → (b : Bool) → same_content z c ≡ b → (b || among z cs) ≡ true
        → is_alias (changed_by f g n (c ∷ cs)) t ≡ true
    by again true e l =
        let is : z ≡ c = same_is z c e in
        here (subst (λ (y : ContentData). has_text y.aliases t ≡ true) is k) (nat_lt n (g c)) (subst (λ y. nat_lt n (g y) ≡ true) is lt)
    by again false e l = later (again l) (nat_lt n (g c))
