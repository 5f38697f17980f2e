use Rattle.std.proofs.Common.{arith, ap, ◌∙◌}
use Rattle.sync_core.specs.Mirrors.{entry_name}
use Rattle.sync_core.specs.Names.{put_all}
use Rattle.sync_core.specs.Steps.{is_alias}
use Rattle.sync_core.proofs.Kept.{changes_heard, kept_rises, listed_rises, merged_rises}
use Rattle.sync_core.proofs.mirror.Mirror.hear_changes.Goals as goal

pub merged-requires-clause-known : goal.merged-requires-clause-known
merged-requires-clause-known c =
    rw c.replace-known.ensures.value (kept_rises c.in_ok-aliases.aliases.keys c.self.inside.entries.items _ c.drop_entries.ensures.kept c.self.invariant)

pub merged-requires-clause-listed : goal.merged-requires-clause-listed
merged-requires-clause-listed c = listed_rises c.args.doc.zones c.in_ok-listed.listed.zones.items c.in_ok-listed.ensures.zones

pub merged-requires-clause-room : goal.merged-requires-clause-room
merged-requires-clause-room c =
    rw c.replace-known.ensures.value (omega (arith, c.drop_entries.ensures.fewer, c.len.ensures, c.len-2.ensures, c.in_ok-room.ensures.capacity))

pub invariant_of-self : goal.invariant_of-self
invariant_of-self c =
    merged_rises c.in_ok-listed.listed.zones.items c.drop_entries.new.entries.items c.merged.result.items
    (kept_rises c.in_ok-aliases.aliases.keys c.self.inside.entries.items _ c.drop_entries.ensures.kept c.self.invariant)
    (c.merged.ensures ∙ ap (λ v. put_all entry_name c.in_ok-listed.listed.zones.items v.items) c.replace-known.ensures.value)

pub returns-clause-ok : goal.returns-clause-ok
returns-clause-ok c =
    let own = c.self.inside in
    rw (← c.self.view_is)
    (changes_heard own.token own.coming own.entries.items c.drop_entries.new.entries.items c.in_ok-listed.listed.zones.items c.merged.result.items
    c.args.doc.zones own.files.entries c.drop_files.new.files.entries own.pending.items
    c.in_ok-listed.listed.names.items c.in_ok-aliases.aliases.keys c.args.doc.token c.self.invariant
    (λ name. c.in_ok-aliases.ensures name ∙ ap (λ zs. is_alias zs name) c.as_slice.ensures)
    c.drop_entries.ensures.kept c.drop_files.ensures c.in_ok-listed.ensures.zones
    (c.merged.ensures ∙ ap (λ v. put_all entry_name c.in_ok-listed.listed.zones.items v.items) c.replace-known.ensures.value) c.in_ok-listed.ensures.names)
