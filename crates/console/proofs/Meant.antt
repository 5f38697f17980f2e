-- Moments that words spell.
use Rattle.std.proofs.Common.{◌≡◌, ℤ, ℕ, List, Some, None, ap}
use Rattle.std.specs.Prelude.{option_and_then}
use Rattle.td_civil.specs.Reading.{moment_in}
use Rattle.console.specs.Words.{if_meant, meant_moment}

pub meant_moment-spelled : (word : List ℕ) (m : ℤ) → Some m ≡ moment_in word → if_meant m ≡ meant_moment word
unfolding meant_moment
meant_moment-spelled word m is = ap (option_and_then if_meant) is

pub meant_moment-bad : (word : List ℕ) → None ≡ moment_in word → None ≡ meant_moment word
unfolding meant_moment
meant_moment-bad word is = ap (option_and_then if_meant) is
