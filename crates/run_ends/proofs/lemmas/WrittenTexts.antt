-- Texts that are written one after the other.
use Rattle.std.proofs.Common.{ℕ, ◌+◌, List, [], ◌++◌, length, take, refl, sym, subst, ◌∙◌, arith}
use Rattle.std.proofs.KnownBytes.{Appends-nil, Appends-trans}
use Rattle.std.specs.Io.KnownBytes.{Appends}
use Rattle.std.proofs.Math.Seq.{take-append-add}
use Rattle.td_base.specs.Views.{SinkView}
use Rattle.td_base.specs.Transfer.{WritesAll}
use Rattle.td_base.specs.declared.transfer.Written.TheVariants as written

-- a text that was written whole, and another after it, whole or cut
pub written_more : (a b c : SinkView) (one two : List ℕ) → WritesAll a b one written.Whole → WritesAll b c two written.Whole
    → WritesAll a c (one ++ two) written.Whole
written_more a b c one two p q = record {
  told = Appends-trans a.taken b.taken c.taken one two p.told q.told;
  later = omega (arith, p.later, q.later);
  once = omega (arith, p.steady refl, q.once);
  steady = λ _. q.steady refl ∙ p.steady refl;
  failed = λ e. cc;
}

pub written_nothing : (a : SinkView) → WritesAll a a [] written.Whole
written_nothing a = record {
  told = Appends-nil a.taken;
  later = omega arith;
  once = omega arith;
  steady = λ _. refl;
  failed = λ e. cc;
}

-- a cut line after whole ones
pub cut_more : (a b c : SinkView) (one two : List ℕ) → WritesAll a b one written.Whole → WritesAll b c two written.Cut → WritesAll a c (one ++ two) written.Cut
cut_more a b c one two p q = record {
  told = (
    length one + q.told.0,
    subst (λ (text : List ℕ). Appends a.taken c.taken text) (sym (take-append-add one two q.told.0))
        (Appends-trans a.taken b.taken c.taken one (take q.told.0 two) p.told q.told.1),
  );
  later = omega (arith, p.later, q.later);
  once = omega (arith, p.steady refl, q.once);
  steady = λ e. cc;
  failed = λ e. omega (arith, p.later, q.failed refl);
}
