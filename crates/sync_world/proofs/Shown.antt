-- The state as lists shows the state by look-ups.
use Rattle.std.proofs.Common.{◌≡◌, ℕ, Bool, true, false, not, cond, Option, None, Some, List, [], ◌∷◌, refl, sym, ap, ◌∙◌, subst}
use Rattle.std.proofs.Math.Path.{fun_ext}
use Rattle.std.specs.List.{filter}
use Rattle.std.specs.Option.{option_or}
use Rattle.std.specs.Str.{bytes_eq}
use Rattle.json_forms.specs.declared.zone_list.ListDoc.{ListDoc}
use Rattle.json_forms.specs.declared.zone_list.ListZone.{ListZone}
use Rattle.sync_core.specs.Mirrors.{MirrorState, ZoneFile, entry_name, file_name}
use Rattle.sync_core.specs.Names.{put_in, put_all, at_text}
use Rattle.sync_core.specs.Steps as lists
use Rattle.sync_core.specs.Steps.{is_alias, rising_zones, kept_entries, kept_files, sync_step}
use Rattle.sync_core.specs.declared.heard_type.Heard.{Heard}
use Rattle.sync_core.specs.declared.heard_type.Heard.TheVariants as heard
use Rattle.sync_core.proofs.lemmas.Puts.{Rising, rising_put, rising_put_all, rising_filter, at_put, at_put_all, bytes_same}
use Rattle.sync_world.proofs.Looks.{StateData, known, unless, kept, with_file, settled, after_changes, after_list, after_file, after_heard, state_after}
use Rattle.sync_world.proofs.Looks.{bytes_found, looked_up, token_then, coming_then}

cond_none : {X : Type 0} (b : Bool) (o : Option X) → o ≡ None → o ≡ cond b o None
cond_none true o e = refl
cond_none false o e = e

at_filter : {X : Type 0} (text : X → List ℕ) (p : List ℕ → Bool) (ys : List X) (t : List ℕ)
    → at_text text (filter (λ y. p (text y)) ys) t ≡ cond (p t) (at_text text ys t) None
at_filter text p [] t = cond_none (p t) None refl
at_filter text p (y ∷ ys) t = by (at_filter text p ys t) (bytes_eq t (text y)) refl (p (text y)) refl
  where
    by : at_text text (filter (λ y. p (text y)) ys) t ≡ cond (p t) (at_text text ys t) None → (a : Bool) → bytes_eq t (text y) ≡ a → (b : Bool) → p (text y) ≡ b
        → at_text text (cond b (y ∷ filter (λ y. p (text y)) ys) (filter (λ y. p (text y)) ys)) t ≡ cond (p t) (cond a (Some y) (at_text text ys t)) None
    by again true e true k =
        let passes : p t ≡ true = subst (λ z. p z ≡ true) (sym (bytes_same t (text y) e)) k in
        rw (e, passes)
    by again true e false k =
        let fails : p t ≡ false = subst (λ z. p z ≡ false) (sym (bytes_same t (text y) e)) k in
        again ∙ rw fails
    by again false e true k = rw e again
    by again false e false k = again

unless_not : {X : Type 0} (b : Bool) (o : Option X) → cond (not b) o None ≡ unless b o
unless_not true o = refl
unless_not false o = refl

pub joined_lists : (old zones : List ListZone) (t : List ℕ)
    → known (put_all entry_name zones (kept_entries zones old)) t ≡ option_or (known (rising_zones zones) t) (unless (is_alias zones t) (known old t))
joined_lists old zones t =
    at_put_all entry_name zones (kept_entries zones old) t
    ∙ ap (option_or (known (rising_zones zones) t)) (at_filter entry_name (λ u. not (is_alias zones u)) old t ∙ unless_not (is_alias zones t) (known old t))

found_unless : (b : Bool) (o : Option ZoneFile) → bytes_found (cond (not b) o None) ≡ unless b (bytes_found o)
found_unless true o = refl
found_unless false o = refl

kept_lists : (old : List ZoneFile) (zones : List ListZone) (t : List ℕ)
    → bytes_found (at_text file_name (kept_files zones old) t) ≡ kept (λ u. bytes_found (at_text file_name old u)) zones t
kept_lists old zones t =
    ap bytes_found (at_filter file_name (λ u. not (is_alias zones u)) old t) ∙ found_unless (is_alias zones t) (at_text file_name old t)

found_cond : (b : Bool) (f : ZoneFile) (o : Option ZoneFile) → bytes_found (cond b (Some f) o) ≡ cond b (Some f.bytes) (bytes_found o)
found_cond true f o = refl
found_cond false f o = refl

file_lists : (old : List ZoneFile) (name bytes t : List ℕ)
    → bytes_found (at_text file_name (put_in file_name (record { tzid = name; bytes = bytes }) old) t) ≡ with_file
    (λ u. bytes_found (at_text file_name old u)) name bytes t
file_lists old name bytes t =
    let f : ZoneFile = record { tzid = name; bytes = bytes } in
    ap bytes_found (at_put file_name f old t)
    ∙ found_cond (bytes_eq t name) f (at_text file_name old t)

abbrev state : Option (List ℕ) → Option (List ℕ) → (List ℕ → Option ListZone) → (List ℕ → Option (List ℕ)) → List (List ℕ) → StateData
state token coming entries files pending = record { token = token; coming = coming; entries = entries; files = files; pending = pending }

-- what is heard does the same to the lists and to the look-ups
changes_shown : (m : MirrorState) (token : List ℕ) (zones : List ListZone)
    → looked_up (lists.after_changes m token zones) ≡ after_changes (looked_up m) token zones
changes_shown m token [] = refl
changes_shown m token (z ∷ zs) =
    let one = looked_up (lists.after_changes m token (z ∷ zs)) in
    let two = after_changes (looked_up m) token (z ∷ zs) in
    let entries : one.entries ≡ two.entries = fun_ext (joined_lists m.entries (z ∷ zs)) in
    let files : one.files ≡ two.files = fun_ext (kept_lists m.files (z ∷ zs)) in
    ap (λ (e : List ℕ → Option ListZone). state one.token one.coming e one.files one.pending) entries
    ∙ ap (λ (f : List ℕ → Option (List ℕ)). state one.token one.coming two.entries f one.pending) files

list_shown : (token : Option (List ℕ)) (m : MirrorState) (doc : ListDoc) → looked_up (lists.after_list token m doc) ≡ after_list token (looked_up m) doc
list_shown None m doc = refl
list_shown (Some token) m doc = changes_shown m doc.token doc.zones

file_shown : (pending : List (List ℕ)) (m : MirrorState) (bytes : List ℕ)
    → looked_up (lists.after_file pending m bytes) ≡ after_file pending (looked_up m) bytes
file_shown [] m bytes = refl
file_shown (t ∷ ts) m bytes =
    let one = looked_up (lists.after_file (t ∷ ts) m bytes) in
    let two = after_file (t ∷ ts) (looked_up m) bytes in
    let files : one.files ≡ two.files = fun_ext (file_lists m.files t bytes) in
    ap (λ (f : List ℕ → Option (List ℕ)). state one.token one.coming one.entries f one.pending) files

heard_shown : (m : MirrorState) (h : Heard) → looked_up (lists.after_heard m h) ≡ after_heard (looked_up m) h
heard_shown m (heard.List doc) = list_shown m.token m doc
heard_shown m (heard.Zone bytes) = file_shown m.pending m bytes
heard_shown m heard.BadToken = refl

settle_shown : (pending : List (List ℕ)) (coming : Option (List ℕ)) (m : MirrorState) → m.pending ≡ pending → m.coming ≡ coming
    → looked_up (lists.settle pending coming m) ≡ state (token_then pending coming m.token) (coming_then pending coming) (known m.entries)
    (looked_up m).files m.pending
settle_shown [] None m p c = ap (λ (o : Option (List ℕ)). state m.token o (known m.entries) (looked_up m).files m.pending) c
settle_shown [] (Some token) m p c = refl
settle_shown (t ∷ ts) coming m p c = ap (λ (o : Option (List ℕ)). state m.token o (known m.entries) (looked_up m).files m.pending) c

pub shown : (m : MirrorState) (h : Heard) → looked_up (sync_step m h) ≡ state_after (looked_up m) h
unfolding sync_step
shown m h =
    let next = lists.after_heard m h in
    settle_shown next.pending next.coming next refl refl ∙ ap settled (heard_shown m h)

-- ---- entries and files rise

pub record IsRisingMirror (m : MirrorState) : Type 0 where
  pub entries : Rising entry_name m.entries
  pub files : Rising file_name m.files

pub none_rise : IsRisingMirror (Rattle.sync_core.specs.Mirrors.empty_mirror)
none_rise = record { entries = tt; files = tt }

rising_changes : (m : MirrorState) (token : List ℕ) (zones : List ListZone) → IsRisingMirror m → IsRisingMirror (lists.after_changes m token zones)
rising_changes m token [] r = record { entries = r.entries; files = r.files }
rising_changes m token (z ∷ zs) r = record {
  entries = rising_put_all entry_name (z ∷ zs) (kept_entries (z ∷ zs) m.entries)
      (rising_filter entry_name (λ y. not (is_alias (z ∷ zs) y.tzid)) m.entries r.entries);
  files = rising_filter file_name (λ f. not (is_alias (z ∷ zs) f.tzid)) m.files r.files;
}

rising_list : (token : Option (List ℕ)) (m : MirrorState) (doc : ListDoc) → IsRisingMirror m → IsRisingMirror (lists.after_list token m doc)
rising_list None m doc r = record { entries = rising_put_all entry_name doc.zones [] tt; files = tt }
rising_list (Some token) m doc r = rising_changes m doc.token doc.zones r

rising_file : (pending : List (List ℕ)) (m : MirrorState) (bytes : List ℕ) → IsRisingMirror m → IsRisingMirror (lists.after_file pending m bytes)
rising_file [] m bytes r = r
rising_file (t ∷ ts) m bytes r = record { entries = r.entries; files = rising_put file_name (record { tzid = t; bytes = bytes }) m.files r.files }

rising_heard : (m : MirrorState) (h : Heard) → IsRisingMirror m → IsRisingMirror (lists.after_heard m h)
rising_heard m (heard.List doc) r = rising_list m.token m doc r
rising_heard m (heard.Zone bytes) r = rising_file m.pending m bytes r
rising_heard m heard.BadToken r = record { entries = r.entries; files = r.files }

rising_settled : (pending : List (List ℕ)) (coming : Option (List ℕ)) (m : MirrorState) → IsRisingMirror m → IsRisingMirror (lists.settle pending coming m)
rising_settled [] None m r = r
rising_settled [] (Some token) m r = record { entries = r.entries; files = r.files }
rising_settled (t ∷ ts) coming m r = r

pub rising_after : (m : MirrorState) (h : Heard) → IsRisingMirror m → IsRisingMirror (sync_step m h)
unfolding sync_step
rising_after m h r = let next = lists.after_heard m h in rising_settled next.pending next.coming next (rising_heard m h r)
