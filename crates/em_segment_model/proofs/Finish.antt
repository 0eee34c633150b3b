-- The end of a segment tree: the pairs that are due, in any order, put in order, are the interval list's answers.
use Rattle.std.proofs.Common.{◌≡◌, ℕ, List, [], ◌∷◌, length, map, refl, sym, ap, subst, ◌∙◌, arith}
use Rattle.std.specs.List.{sum_by}
use Rattle.em_record.specs.declared.record.Record.{Record}
use Rattle.em_record.specs.Order.{in_order}
use Rattle.em_model.specs.Ascending.{Ascend}
use Rattle.em_model.specs.Stab.{NumberedInterval, intervals_after}
use Rattle.em_model.specs.StabAnswers.{stab_pairs}
use Rattle.em_model.specs.declared.command.Command.{Command}
use Rattle.em_model.proofs.Ordered.{stab_pairs_ascend}
use Rattle.em_model.proofs.StabLaws.{AreNumbered, numbered_after}
use Rattle.em_segment_model.specs.Alike.{Alike}
use Rattle.em_segment_model.specs.Commands.{asked_from}
use Rattle.em_segment_model.specs.Pieces.{Asked, pairs_at, all_pairs}
use Rattle.em_segment_model.specs.Points.{asked_in, asked_record, interval_in, interval_record, pairs_due}
use Rattle.em_segment_model.proofs.Commands.{stab_pairs-asked}
use Rattle.em_segment_model.proofs.Order.{order-alike, in_order_one}
use Rattle.em_segment_model.proofs.Sums.{sum-map, sum-flat}

asked_back : (ps : List Asked) → map asked_in (map asked_record ps) ≡ ps
asked_back [] = refl
asked_back (p ∷ ps) = ap (λ qs. p ∷ qs) (asked_back ps)

pub intervals_back : (is : List NumberedInterval) → map interval_in (map interval_record is) ≡ is
intervals_back [] = refl
intervals_back (i ∷ is) = ap (λ js. i ∷ js) (intervals_back is)

-- the points in order have the same pairs
points_sorted : (f : Record → ℕ) (rs : List Record) (is : List NumberedInterval)
    → sum_by f (all_pairs (map asked_in (in_order rs)) is) ≡ sum_by f (all_pairs (map asked_in rs) is)
points_sorted f rs is =
    sum-flat (pairs_at is) f (map asked_in (in_order rs))
    ∙ sum-map asked_in (λ a. sum_by f (pairs_at is a)) (in_order rs)
    ∙ (order-alike rs).weighs (λ r. sum_by f (pairs_at is (asked_in r)))
    ∙ sym (sum-map asked_in (λ a. sum_by f (pairs_at is a)) rs)
    ∙ sym (sum-flat (pairs_at is) f (map asked_in rs))

-- What the points in order are due with all intervals is what the interval list answers.
pub due_answers : (cs : List Command) (xs : List Record)
    → Alike xs (pairs_due (in_order (map asked_record (asked_from 0 0 cs)))
    (map interval_record (intervals_after [] cs)))
    → Alike xs (stab_pairs cs)
due_answers cs xs h = record {
  weighs = λ f.
      h.weighs f
      ∙ ap (λ (is : List NumberedInterval).
      sum_by f (all_pairs (map asked_in (in_order (map asked_record (asked_from 0 0 cs)))) is))
      (intervals_back (intervals_after [] cs))
      ∙ points_sorted f (map asked_record (asked_from 0 0 cs)) (intervals_after [] cs)
      ∙ ap (λ (ps : List Asked). sum_by f (all_pairs ps (intervals_after [] cs))) (asked_back (asked_from 0 0 cs))
      ∙ ap (sum_by f) (sym (stab_pairs-asked cs));
}

-- Put in order, they are the answers.
pub finish_answers : (cs : List Command) (xs : List Record)
    → Alike xs (pairs_due (in_order (map asked_record (asked_from 0 0 cs)))
    (map interval_record (intervals_after [] cs)))
    → in_order xs ≡ stab_pairs cs
finish_answers cs xs h = in_order_one xs (stab_pairs cs) (stab_pairs_ascend cs) (due_answers cs xs h)

-- The intervals come in the order of their numbers.
pub intervals_in_order : (cs : List Command)
    → Ascend (λ (i : NumberedInterval). i.number) 0
    (map interval_in (map interval_record (intervals_after [] cs))) (length (intervals_after [] cs))
intervals_in_order cs =
    let begin : AreNumbered [] = omega arith in
    subst (λ (is : List NumberedInterval).
    Ascend (λ (i : NumberedInterval). i.number) 0 is (length (intervals_after [] cs)))
    (sym (intervals_back (intervals_after [] cs))) (numbered_after [] cs begin)
