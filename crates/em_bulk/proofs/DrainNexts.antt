-- A record is given out of the area, or none is left.
use Rattle.std.specs.Prelude.{◌≡◌, ◌+◌, ◌<◌, List, ◌∷◌, get_or, Option, Some, None, IsTrue}
use Rattle.std.proofs.Common.{sym, ap, subst, ◌∙◌, arith}
use Rattle.em_record.specs.declared.record.Record.{Record}
use Rattle.em_settle.specs.Keys.{record_at}
use Rattle.em_settle.specs.Rising.{RisesByKey}
use Rattle.em_settle.specs.declared.step.Step.{Step}
use Rattle.em_space.specs.Rig.{RigState}
use Rattle.em_tree_model.specs.Meaning.{tree_contents}
use Rattle.em_tree_model.specs.Ranges.{AllIn, least_record}
use Rattle.em_trunk.specs.Trunk.{model_of}
use Rattle.em_bulk.specs.Draining.{CountsNext, GaveNext, area_rest, or_else, trunk_of}
use Rattle.em_bulk.specs.Refilling.{GivesOut, Refilled}
use Rattle.em_bulk.specs.declared.drain.Drain.{Drain}
use Rattle.em_bulk.proofs.DrainRests.{none_left, rest_cons, rest_of}

module _ {S : Type 0} (key : Record → Record) (step : Option Record → Record → Step) (IsOp IsKept : Record → Type 0)
    (s t : RigState) (d e : Drain S) (r : Refilled key step IsOp IsKept s t d e) where
  -- The area had none: none is left.
  gave_none : e.at ≡ e.end → GaveNext key step IsOp IsKept s t d e None
  gave_none same = record {
    is = r.is;
    runs = r.runs;
    told = λ told.
        let k = r.told told in
        record {
          gives = λ xs g. (
            none_left key xs g.rises (λ q. g.left q ∙ (sym (k.left q) ∙ k.none same q)),
            record { rises = g.rises; left = λ q. g.left q ∙ sym (k.left q) },
          );
          answers = k.answers;
          quiet = k.quiet;
          reset = k.reset;
        };
  }

  -- It had one.
  module _ (x : Record) (some : e.at < e.end) (is : (other : Record) → get_or e.area e.at other ≡ x) where
    abbrev after : Drain S
    after = record e { at = e.at + 1 }

    rest_is : area_rest e ≡ x ∷ area_rest after
    rest_is = rest_cons e.area e.at e.end x some r.is.within (is x)

    -- what holds of all that were left in the area
    before : IsTrue t.device.told → RisesByKey key (x ∷ area_rest after)
    before told = (let R : List Record → Type 0 = RisesByKey key in subst R rest_is (r.is.told told).rises)

    above : IsTrue t.device.told → (q y : Record) → tree_contents key step (model_of t (trunk_of e)) q ≡ Some y
        → AllIn key least_record (Some q) (x ∷ area_rest after)
    above told q y h =
        let B : List Record → Type 0 = AllIn key least_record (Some q) in
        subst B rest_is ((r.is.told told).below q y h)

    gave_one : GaveNext key step IsOp IsKept s t d after (Some x)
    gave_one = record {
      is = record {
        is = r.is.is;
        area = r.is.area;
        out = r.is.out;
        rest = omega (arith, some);
        within = r.is.within;
        resets = r.is.resets;
        settled = r.is.settled;
        told = λ told. record {
          rises = (before told).1;
          below = λ q y h. (above told q y h).1;
        };
      };
      runs = r.runs;
      told = λ told.
          let k = r.told told in
          let here : IsTrue t.device.told = r.runs.session.touches.told ∙ told in
          record {
            gives = λ xs g.
                let all : (q : Record) → record_at key xs q
                ≡ or_else (record_at key (x ∷ area_rest after) q) (tree_contents key step (model_of t (trunk_of e)) q) =
                λ q. g.left q ∙ (sym (k.left q)
                ∙ ap (λ (ys : List Record). or_else (record_at key ys q) (tree_contents key step (model_of t (trunk_of e)) q))
                rest_is) in
                let o = rest_of key x (area_rest after) (tree_contents key step (model_of t (trunk_of e))) (before here)
                (above here) xs g.rises all in
                record {
                  rest = o.rest;
                  is = o.is;
                  gives = record { rises = o.rises; left = o.left };
                };
            answers = k.answers;
            quiet = k.quiet;
            reset = k.reset;
          };
    }

  -- by what was given out
  pub gave : (f : Drain S) (item : Option Record) → GivesOut e f item → GaveNext key step IsOp IsKept s t d f item
  gave f None g =
      let P : Drain S → Type 0 = λ z. GaveNext key step IsOp IsKept s t d z None in
      subst P (sym g.1) (gave_none g.0)
  gave f (Some x) g =
      let P : Drain S → Type 0 = λ z. GaveNext key step IsOp IsKept s t d z (Some x) in
      subst P (sym g.rest) (gave_one x g.some g.is)

-- The tree stays, with its rule,
pub out_tree : {S : Type 0} (e f : Drain S) (item : Option Record) → GivesOut e f item → f.tree ≡ e.tree
out_tree e f None g = ap (λ (z : Drain _). z.tree) g.1
out_tree e f (Some x) g = ap (λ (z : Drain _). z.tree) g.rest

module _ {S : Type 0} {s t : RigState} {d e : Drain S} where
  -- and its numbers.
  pub counts_out : (f : Drain S) (item : Option Record) → GivesOut e f item → CountsNext s t d e → CountsNext s t d f
  counts_out f None g c =
      let P : Drain S → Type 0 = CountsNext s t d in
      subst P (sym g.1) c
  counts_out f (Some x) g c =
      let P : Drain S → Type 0 = CountsNext s t d in
      let n : CountsNext s t d (record e { at = e.at + 1 }) = record {
        numbers = c.numbers;
        counted = c.counted;
        spent = c.spent;
        share = c.share;
      } in
      subst P (sym g.rest) n
