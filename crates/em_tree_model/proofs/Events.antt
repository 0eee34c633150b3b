-- What each event leaves: the tree is one still, and means what it must.
use Rattle.std.specs.Prelude.{List, [], ◌++◌, Option}
use Rattle.std.proofs.Common.{sym, ap, ◌∙◌, refl}
use Rattle.std.proofs.lemmas.List.{append-nil}
use Rattle.em_record.specs.declared.record.Record.{Record}
use Rattle.em_settle.specs.Keys.{of_key}
use Rattle.em_tree_model.specs.Tree.{Tree, stored_in, waiting_in, HasEntry}
use Rattle.em_tree_model.specs.Tree.Tree.{entry}
use Rattle.em_tree_model.specs.Ranges.{next_low, low_of, IsTree}
use Rattle.em_tree_model.specs.Places.{Place, put_at, SameStart}
use Rattle.em_tree_model.specs.Places.Place.{here, under, past}
use Rattle.em_tree_model.specs.Pouring.{pour}
use Rattle.em_tree_model.specs.Meaning.{SameMeaning}
use Rattle.em_tree_model.proofs.Places.{tree_put, same_put, stored_same, some_same}
use Rattle.em_tree_model.proofs.Pouring.{pours, same_append}

module _ (key : Record → Record) where
  -- A change at a place that keeps meaning.
  pub record Keeps (t u : Tree) : Type 0 where
    pub start : SameStart t u
    pub is : (lo : Record) (hi : Option Record) → IsTree key t lo hi → IsTree key u lo hi
    pub means : (lo : Record) (hi : Option Record) → IsTree key t lo hi → SameMeaning key t u

  -- the whole keeps it too
  pub record Kept (t u : Tree) (lo : Record) (hi : Option Record) : Type 0 where
    pub is : IsTree key u lo hi
    pub means : SameMeaning key t u

  -- the range of a place, which is read from the whole
  pub record IsPlaced (t : Tree) : Type 0 where
    pub low : Record
    pub high : Option Record
    pub is : IsTree key t low high

  abbrev pub placed : (p : Place) (t : Tree) (lo : Record) (hi : Option Record) → IsTree key (put_at p t) lo hi
      → IsPlaced t
  placed here t lo hi i = record { low = lo; high = hi; is = i }
  placed (under low b r p) t lo hi i = placed p t lo (next_low hi r) i.2
  placed (past low b c p) t lo hi i = placed p t (low_of lo (put_at p t)) hi i.4

  pub keeps_put : (p : Place) (t u : Tree) (lo : Record) (hi : Option Record) → Keeps t u
      → IsTree key (put_at p t) lo hi → Kept (put_at p t) (put_at p u) lo hi
  keeps_put p t u lo hi k i =
      let at = placed p t lo hi i in
      let m = k.means at.low at.high at.is in
      record {
        is = tree_put key p t u k.start k.is lo hi i;
        means = record {
          stored = stored_same key p u t m.stored;
          waiting = same_put key p t u m.waiting;
        };
      }

  -- A node's buffer is emptied into the buffers of its children.
  pub emptied : (low : Record) (b : List Record) (c r : Tree) → HasEntry c
      → Keeps (entry low b c r) (entry low [] (pour key c b) r)
  emptied low b c r n = record {
    start = refl;
    is = λ lo hi i.
        let d = pours key c b lo (next_low hi r) n i.2 i.1 in
        (some_same c (pour key c b) d.start i.0, tt, d.is, i.3, i.4);
    means = λ lo hi i.
        let d = pours key c b lo (next_low hi r) n i.2 i.1 in
        record {
          stored = ap (λ zs. zs ++ stored_in r) d.stored;
          waiting = same_append key (waiting_in c ++ b) (waiting_in (pour key c b) ++ [])
              (waiting_in r) (waiting_in r)
              (λ q. d.waiting q ∙ ap (of_key key q) (sym (append-nil (waiting_in (pour key c b)))))
              (λ q. refl);
        };
  }
