-- Parts that are appended one by one.
use Rattle.std.proofs.Common.{◌≡◌, ℕ, List, [], ◌++◌, append_assoc}

pub enclosed_parts : (old front text end : List ℕ) → ((old ++ front) ++ text) ++ end ≡ old ++ (front ++ (text ++ end))
enclosed_parts old front text end = simp append_assoc

pub named_parts : (old path text : List ℕ) → (old ++ path) ++ text ≡ old ++ (path ++ text)
named_parts old path text = simp append_assoc

pub head_parts : (line host accept : List ℕ) → (([] ++ line) ++ host) ++ accept ≡ line ++ (host ++ accept)
head_parts line host accept = simp append_assoc
