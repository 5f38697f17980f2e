-- Parts that are appended one by one are lines with their ends.
use Rattle.std.proofs.Common.{◌≡◌, ℕ, List, [], ◌++◌, append_assoc}
use Rattle.std.proofs.lemmas.List.{append-nil}
use Rattle.http_answer.specs.Parts.{parts_text}
use Rattle.http_answer.specs.Replies.{ended}

pub status_parts : (old version digits space phrase end : List ℕ)
    → ((old ++ version) ++ digits) ++ (space ++ (phrase ++ end)) ≡ old ++ ((version ++ (digits ++ (space ++ phrase))) ++ end)
status_parts old version digits space phrase end = simp append_assoc

pub line_parts : (old name value end : List ℕ) → old ++ (name ++ (value ++ end)) ≡ old ++ (((name ++ value) ++ end) ++ [])
line_parts old name value end = simp (append_assoc, append-nil)

pub tag_parts : (old name tag vary end : List ℕ)
    → (old ++ (name ++ (tag ++ end))) ++ (vary ++ end) ≡ old ++ (((name ++ tag) ++ end) ++ ((vary ++ end) ++ []))
tag_parts old name tag vary end = simp (append_assoc, append-nil)

pub message_parts : (old line : List ℕ) (lines : List (List ℕ)) (end body : List ℕ)
    → (((old ++ ended line) ++ parts_text lines) ++ end) ++ body ≡ old ++ ((ended line ++ parts_text lines) ++ (end ++ body))
message_parts old line lines end body = simp append_assoc
