-- What a cache keeps.
use Rattle.std.specs.Prelude.{◌≡◌, ℕ, ◌<◌, ◌⊎◌, List, [], length, slice_get, Contains, Option}
use Rattle.std.specs.Prelude.{None, Some}
use Rattle.http_answer.specs.declared.answer.Answer.{Answer}
use Rattle.lru.specs.LruCache.{LruCache}
use Rattle.answer_cache.specs.declared.key.Key.{Key}

-- ---- pairs of a key and an answer to it

-- an answer to this key is among them
abbrev pub IsKeyAmong : List (Key × Answer) → Key → Type 0
IsKeyAmong pairs key = (answer : Answer) × Contains pairs (key, answer)

-- the first answer is one to this key
abbrev pub IsFirst : List (Key × Answer) → Key → Type 0
IsFirst pairs key = (answer : Answer) × (slice_get pairs 0 ≡ Some (key, answer))

-- no pair is now there that was not
abbrev pub AddsNone : List (Key × Answer) → List (Key × Answer) → Type 0
AddsNone before now =
    (key : Key) (answer : Answer) → Contains now (key, answer) → Contains before (key, answer)

-- no pair is now there that was not, but this one
abbrev pub AddsOne : List (Key × Answer) → List (Key × Answer) → Key → Answer → Type 0
AddsOne before now key answer = (other : Key) (given : Answer) → Contains now (other, given)
    → Contains before (other, given) ⊎ ((other ≡ key) × (given ≡ answer))

-- the pairs and the room of a table, where there is one
abbrev pub kept_in : Option (LruCache Key Answer) → List (Key × Answer)
kept_in None = []
kept_in (Some table) = table.entries

abbrev pub room_of : Option (LruCache Key Answer) → ℕ
room_of None = 0
room_of (Some table) = table.cap

-- ---- caches

-- The pairs that are kept, the one used last first; how many there may be; and how many bytes the
-- body of a kept answer has at most.
pub record CacheView : Type 0 where
  pub kept : List (Key × Answer)
  pub capacity : ℕ
  pub most_body : ℕ

-- a cache that keeps nothing
abbrev pub new_cache : ℕ → ℕ → CacheView
new_cache capacity most_body = record { kept = []; capacity = capacity; most_body = most_body }

-- each answer that is kept is the one that its key gets
abbrev pub AreRight : (Key → Answer) → CacheView → Type 0
AreRight answer cache =
    (key : Key) (kept : Answer) → Contains cache.kept (key, kept) → kept ≡ answer key

-- its room and its bound stay
pub record IsSameCache (before now : CacheView) : Type 0 where
  pub capacity : now.capacity ≡ before.capacity
  pub most_body : now.most_body ≡ before.most_body

-- every pair that is kept now was kept before
pub record KeepsNoOther (before now : CacheView) : Type 0 where
  pub pairs : AddsNone before.kept now.kept
  pub same : IsSameCache before now

-- Every pair that is kept now was kept before or is this one, and is not this one where the body is
-- over the bound.
pub record KeepsOneMore (before now : CacheView) (key : Key) (answer : Answer) : Type 0 where
  pub pairs : AddsOne before.kept now.kept key answer
  pub bound : before.most_body < length answer.body → AddsNone before.kept now.kept
  pub same : IsSameCache before now
