-- What a get comes to, by its steps.
use Rattle.std.proofs.Common.{◌≡◌, ◌<◌, inl, inr, length, slice_get, option_map, Some, Contains, sym, ap, ◌∙◌, subst}
use Rattle.http_answer.specs.declared.answer.Answer.{Answer}
use Rattle.answer_cache.specs.Keeping.{AreRight, CacheView, IsFirst, KeepsNoOther, KeepsOneMore}
use Rattle.answer_cache.specs.declared.key.Key.{Key}
use Rattle.answer_cache.proofs.lemmas.Kept.{newest_kept}

module _ (answer : Key → Answer) (before now : CacheView) (key : Key) (right : AreRight answer before) (p : KeepsNoOther before now) where
  -- what is lent of a key that was found
  pub lent_right : (lent : Answer) → IsFirst now.kept key → option_map (λ pair. pair.1) (slice_get now.kept 0) ≡ Some lent → lent ≡ answer key
  lent_right lent first e = right key lent (p.pairs key lent (newest_kept now.kept key lent first e))

  -- nothing was added
  pub none_added : (given : Answer) → KeepsOneMore before now key given
  none_added given = record {
    pairs = λ other kept c. inl (p.pairs other kept c);
    bound = λ long. p.pairs;
    same = p.same;
  }

  module _ (later : Key → Answer) (same : later ≡ answer) where
    still_right : (other : Key) (kept : Answer) → Contains before.kept (other, kept) → kept ≡ later other
    still_right other kept c = right other kept c ∙ ap (λ f. f other) (sym same)

    pub none_wrong : AreRight later now
    none_wrong = λ other kept c. still_right other kept (p.pairs other kept c)

    -- the answer that was computed is kept
    module _ (last : CacheView) (given : Answer) (is : given ≡ answer key) (k : KeepsOneMore now last key given) where
      pub one_right : AreRight later last
      one_right = λ other kept c. elim (k.pairs other kept c) [
        | inl was ↦ still_right other kept (p.pairs other kept was)
        | inr x ↦ x.1 ∙ (is ∙ (ap (λ f. f key) (sym same) ∙ ap later (sym x.0)))
      ]

      pub one_added : KeepsOneMore before last key (answer key)
      one_added = record {
        pairs = λ other kept c. elim (k.pairs other kept c) [
          | inl was ↦ inl (p.pairs other kept was)
          | inr x ↦ inr (x.0, x.1 ∙ is)
        ];
        bound = λ long other kept c.
            p.pairs other kept
            (k.bound
            (subst (λ m. m < length given.body) (sym p.same.most_body) (subst (λ x. before.most_body < length x.body) (sym is) long))
            other kept c);
        same = record { capacity = k.same.capacity ∙ p.same.capacity; most_body = k.same.most_body ∙ p.same.most_body };
      }
