use Rattle.std.proofs.Common.{◌≡◌, ◌++◌, length, take, drop}
use Rattle.std.specs.List.{flat_map}
use Rattle.console.specs.Replies.{notice_text}
use Rattle.console.proofs.news.put_notices.Given as goal

-- what is written, with the notices that are left, is the whole
abbrev pub invariant-loop-notice : goal.invariant-loop-notice
invariant-loop-notice l = record {
  whole : l.out ++ flat_map notice_text (drop l.notice-index l.notices) ≡ l.initial.out ++ flat_map notice_text l.notices;
  kept : take (length l.initial.out) l.out ≡ l.initial.out;
}
