-- Splits, a new root, and entries that are taken away.
use Rattle.std.specs.Prelude.{◌≡◌, true, false, List, [], ◌∷◌, ◌++◌, Option, Some}
use Rattle.std.proofs.Common.{sym, ap, ◌∙◌, refl, append_assoc}
use Rattle.std.proofs.lemmas.List.{append-nil}
use Rattle.em_record.specs.declared.record.Record.{Record}
use Rattle.em_record.specs.Order.{is_below}
use Rattle.em_settle.specs.Orders.{below_trans}
use Rattle.em_settle.specs.Keys.{of_key, SameByKey}
use Rattle.em_settle.specs.Rising.{KeysAbove, RisesByKey}
use Rattle.em_settle.proofs.Keys.{below_itself}
use Rattle.em_tree_model.specs.Tree.{Tree, stored_in, waiting_in, IsChild, HasEntry, join_rows, IsRow}
use Rattle.em_tree_model.specs.Tree.Tree.{leaf, end, entry}
use Rattle.em_tree_model.specs.Ranges.{Under, AllIn, next_low, low_of, Follow, IsTree}
use Rattle.em_tree_model.specs.Pouring.{pour}
use Rattle.em_tree_model.proofs.Ranges.{to_below, below_not, upto_next, under_wider, all_wider, all_last, upto_itself, waiting_range}
use Rattle.em_tree_model.proofs.Events.{Keeps}
use Rattle.em_tree_model.proofs.Pouring.{pours, Poured, pour_list_start}
use Rattle.em_tree_model.proofs.Loads.{ranges_past}

pub stored_join : (t u : Tree) → IsRow t → stored_in (join_rows t u) ≡ stored_in t ++ stored_in u
stored_join (leaf xs) u n = absurd n
stored_join end u n = refl
stored_join (entry low b c r) u n = ap (λ zs. stored_in c ++ zs) (stored_join r u n)
    ∙ sym (append_assoc (stored_in c) (stored_in r) (stored_in u))

pub waiting_join : (t u : Tree) → IsRow t → waiting_in (join_rows t u) ≡ waiting_in t ++ waiting_in u
waiting_join (leaf xs) u n = absurd n
waiting_join end u n = refl
waiting_join (entry low b c r) u n = ap (λ zs. (waiting_in c ++ b) ++ zs) (waiting_join r u n)
    ∙ sym (append_assoc (waiting_in c ++ b) (waiting_in r) (waiting_in u))

-- entries that follow one also follow a later one whose range ends at their first low key
pub follow_from : (lo k : Record) (hi : Option Record) (r : Tree) → Follow lo hi r
    → Under (next_low hi r) k → Follow k hi r
follow_from lo k hi (leaf xs) f u = absurd f
follow_from lo k hi end f u = tt
follow_from lo k hi (entry low b c r) f u = (u, f.1)

-- an earlier one too
pub follow_lower : (lo lower : Record) (hi : Option Record) (r : Tree) → is_below lo lower ≡ false
    → Follow lo hi r → Follow lower hi r
follow_lower lo lower hi (leaf xs) l f = absurd f
follow_lower lo lower hi end l f = tt
follow_lower lo lower hi (entry low b c r) l f = (to_below lower lo low l f.0, f.1)

module _ (key : Record → Record) where
  pub rest_from : (lo k : Record) (hi : Option Record) (r : Tree) → Follow lo hi r
      → IsTree key r (low_of lo r) hi → IsTree key r (low_of k r) hi
  rest_from lo k hi (leaf xs) f i = absurd f
  rest_from lo k hi end f i = tt
  rest_from lo k hi (entry low b c r) f i = i

  above_at : (k z : Record) (ys zs : List Record) → KeysAbove key k (ys ++ z ∷ zs)
      → is_below k (key z) ≡ true
  above_at k z [] zs a = a.0
  above_at k z (y ∷ ys) zs a = above_at k z ys zs a.1

  above_first : (k : Record) (ys zs : List Record) → KeysAbove key k (ys ++ zs) → KeysAbove key k ys
  above_first k [] zs a = tt
  above_first k (y ∷ ys) zs a = (a.0, above_first k ys zs a.1)

  pub rises_first : (ys zs : List Record) → RisesByKey key (ys ++ zs) → RisesByKey key ys
  rises_first [] zs r = tt
  rises_first (y ∷ ys) zs r = (above_first (key y) ys zs r.0, rises_first ys zs r.1)

  pub rises_last : (ys zs : List Record) → RisesByKey key (ys ++ zs) → RisesByKey key zs
  rises_last [] zs r = r
  rises_last (y ∷ ys) zs r = rises_last ys zs r.1

  -- the records before one are below its key
  under_first : (lo : Record) (hi : Option Record) (z : Record) (ys zs : List Record)
      → AllIn key lo hi (ys ++ z ∷ zs) → RisesByKey key (ys ++ z ∷ zs) → AllIn key lo (Some (key z)) ys
  under_first lo hi z [] zs a r = tt
  under_first lo hi z (y ∷ ys) zs a r =
      (record { low = a.0.low; high = above_at (key y) z ys zs r.0 }, under_first lo hi z ys zs a.1 r.1)

  from_first : (lo k : Record) (hi : Option Record) (zs : List Record) → AllIn key lo hi zs
      → KeysAbove key k zs → AllIn key k hi zs
  from_first lo k hi [] a r = tt
  from_first lo k hi (z ∷ zs) a r =
      (record { low = below_not k (key z) r.0; high = a.0.high }, from_first lo k hi zs a.1 r.1)

  -- A leaf is split, with nothing in its entry's buffer.
  pub leaf_split : (low y z : Record) (ys zs : List Record) (r : Tree)
      → Keeps key (entry low [] (leaf (y ∷ ys ++ z ∷ zs)) r)
      (entry low [] (leaf (y ∷ ys)) (entry (key z) [] (leaf (z ∷ zs)) r))
  leaf_split low y z ys zs r = record {
    start = refl;
    is = λ lo hi i.
        let k = key z in
        let front = y ∷ ys in
        let all : AllIn key lo (next_low hi r) (front ++ z ∷ zs) = i.2.0 in
        let up : RisesByKey key (front ++ z ∷ zs) = i.2.1 in
        let back : AllIn key lo (next_low hi r) (z ∷ zs) = all_last key lo (next_low hi r) front (z ∷ zs) all in
        let back_up : RisesByKey key (z ∷ zs) = rises_last front (z ∷ zs) up in
        let first = above_at (key y) z ys zs up.0 in (
          tt,
          tt,
          (under_first lo (next_low hi r) z front zs all up, rises_first front (z ∷ zs) up),
          (
            to_below lo (key y) k all.0.low first,
            under_wider (next_low hi r) hi k (upto_next lo hi r i.3) back.0.high,
          ),
          (
            tt,
            tt,
            (
              (
                record { low = below_itself k; high = back.0.high },
                from_first lo k (next_low hi r) zs back.1 back_up.0,
              ),
              back_up,
            ),
            follow_from lo k hi r i.3 back.0.high,
            rest_from lo k hi r i.3 i.4,
          ),
        );
    means = λ lo hi i. record {
      stored = ap (λ zs. y ∷ zs) (sym (append_assoc ys (z ∷ zs) (stored_in r)));
      waiting = λ q. refl;
    };
  }

  -- a row is two rows, each in its range
  record Parts (t u : Tree) (k lo : Record) (hi : Option Record) : Type 0 where
    first : IsTree key t lo (Some k)
    above : is_below lo k ≡ true
    under : Under hi k
    last : IsTree key u k hi

  parts_by : (k : Record) (bk : List Record) (ck rk : Tree) (low : Record) (b : List Record) (c r : Tree)
      (lo : Record) (hi : Option Record) → IsRow r
      → ((l : Record) → HasEntry r → IsTree key (join_rows r (entry k bk ck rk)) l hi
      → Parts r (entry k bk ck rk) k l hi)
      → IsTree key (entry low b c (join_rows r (entry k bk ck rk))) lo hi
      → Parts (entry low b c r) (entry k bk ck rk) k lo hi
  parts_by k bk ck rk low b c (leaf xs) lo hi n h i = absurd n
  parts_by k bk ck rk low b c end lo hi n h i = record {
    first = (i.0, i.1, i.2, tt, tt);
    above = i.3.0;
    under = i.3.1;
    last = i.4;
  }
  parts_by k bk ck rk low b c (entry low2 b2 c2 r2) lo hi n h i =
      let rest = h low2 tt i.4 in
      record {
        first = (i.0, i.1, i.2, (i.3.0, rest.above), rest.first);
        above = below_trans lo low2 k i.3.0 rest.above;
        under = rest.under;
        last = rest.last;
      }

  parts : (k : Record) (bk : List Record) (ck rk t : Tree) (lo : Record) (hi : Option Record) → IsRow t
      → HasEntry t → IsTree key (join_rows t (entry k bk ck rk)) lo hi
      → Parts t (entry k bk ck rk) k lo hi
  parts k bk ck rk (leaf xs) lo hi n e i = absurd n
  parts k bk ck rk end lo hi n e i = absurd e
  parts k bk ck rk (entry low b c r) lo hi n e i =
      parts_by k bk ck rk low b c r lo hi n (λ l m j. parts k bk ck rk r l hi n m j) i

  pub entry_some : (t : Tree) → HasEntry t → IsChild t
  entry_some (leaf xs) e = absurd e
  entry_some end e = absurd e
  entry_some (entry low b c r) e = tt

  -- A node is split, with nothing in its entry's buffer.
  pub node_split : (low : Record) (t : Tree) (k : Record) (bk : List Record) (ck rk r : Tree) → IsRow t
      → HasEntry t → Keeps key (entry low [] (join_rows t (entry k bk ck rk)) r)
      (entry low [] t (entry k [] (entry k bk ck rk) r))
  node_split low t k bk ck rk r n e = let u = entry k bk ck rk in record {
    start = refl;
    is = λ lo hi i.
        let p = parts k bk ck rk t lo (next_low hi r) n e i.2 in (
          entry_some t e,
          tt,
          p.first,
          (p.above, under_wider (next_low hi r) hi k (upto_next lo hi r i.3) p.under),
          (tt, tt, p.last, follow_from lo k hi r i.3 p.under, rest_from lo k hi r i.3 i.4),
        );
    means = λ lo hi i. record {
      stored = sym (ap (λ zs. zs ++ stored_in r) (stored_join t u n)
          ∙ append_assoc (stored_in t) (stored_in u) (stored_in r));
      waiting = λ q. ap (of_key key q) (ap (λ zs. zs ++ waiting_in r) (append-nil (waiting_in (join_rows t u)))
          ∙ (ap (λ zs. zs ++ waiting_in r) (waiting_join t u n)
          ∙ (append_assoc (waiting_in t) (waiting_in u) (waiting_in r)
          ∙ (ap (λ zs. zs ++ (waiting_in u ++ waiting_in r)) (sym (append-nil (waiting_in t)))
          ∙ ap (λ zs. (waiting_in t ++ []) ++ (zs ++ waiting_in r)) (sym (append-nil (waiting_in u)))))));
    };
  }

  -- A node of one level more goes between an entry and its child.
  pub grown : (low : Record) (b : List Record) (c r : Tree) (first : Record)
      → Keeps key (entry low b c r) (entry low b (entry first [] c end) r)
  grown low b c r first = record {
    start = refl;
    is = λ lo hi i. (tt, i.1, (i.0, tt, i.2, tt, tt), i.3, i.4);
    means = λ lo hi i. record {
      stored = ap (λ zs. zs ++ stored_in r) (append-nil (stored_in c));
      waiting = λ q. ap (of_key key q) (ap (λ zs. (zs ++ b) ++ waiting_in r)
          (sym (append-nil ((waiting_in c ++ [])) ∙ append-nil (waiting_in c))));
    };
  }

  -- a lower lower end
  pub lower_end : (t : Tree) (lo lower : Record) (hi : Option Record) → is_below lo lower ≡ false
      → IsTree key t lo hi → IsTree key t lower hi
  lower_end (leaf xs) lo lower hi l i =
      (all_wider key lo lower hi hi xs l (upto_itself hi) i.0, i.1)
  lower_end end lo lower hi l i = tt
  lower_end (entry low b c r) lo lower hi l i = (
    i.0,
    all_wider key lo lower (next_low hi r) (next_low hi r) b l (upto_itself (next_low hi r)) i.1,
    lower_end c lo lower (next_low hi r) l i.2,
    follow_lower lo lower hi r l i.3,
    rest_from lo lower hi r i.3 i.4,
  )

  -- The first entry of a node is taken away, with nothing stored or waiting there.
  pub first_removed : (low : Record) (b : List Record) (first : Record) (c : Tree) (second : Record)
      (bs : List Record) (cs rs r : Tree) → stored_in c ≡ [] → waiting_in c ≡ []
      → Keeps key (entry low b (entry first [] c (entry second bs cs rs)) r)
      (entry low b (entry second bs cs rs) r)
  first_removed low b first c second bs cs rs r s w = let u = entry second bs cs rs in record {
    start = refl;
    is = λ lo hi i. (
      tt,
      i.1,
      lower_end u second lo (next_low hi r) (below_not lo second i.2.3.0) i.2.4,
      i.3,
      i.4,
    );
    means = λ lo hi i. record {
      stored = ap (λ zs. zs ++ stored_in r) (sym (ap (λ zs. zs ++ stored_in u) s));
      waiting = λ q. ap (of_key key q) (ap (λ zs. (((zs ++ []) ++ waiting_in u) ++ b) ++ waiting_in r) w);
    };
  }

  -- A whole tree with nothing stored or waiting is a new one: a root over one empty leaf.
  pub cleared : (low : Record) (b : List Record) (root : Tree) (first : Record)
      → stored_in (entry low b root end) ≡ [] → waiting_in (entry low b root end) ≡ []
      → Keeps key (entry low b root end) (entry low [] (entry first [] (leaf []) end) end)
  cleared low b root first s w = record {
    start = refl;
    is = λ lo hi i. (tt, tt, (tt, tt, (tt, tt), tt, tt), tt, tt);
    means = λ lo hi i. record { stored = sym s; waiting = λ q. ap (of_key key q) w };
  }

  -- The low key of an entry that is the first of its node may be any.
  pub low_changed : (low : Record) (b : List Record) (first other : Record) (b1 : List Record) (c1 r1 r : Tree)
      → Keeps key (entry low b (entry first b1 c1 r1) r) (entry low b (entry other b1 c1 r1) r)
  low_changed low b first other b1 c1 r1 r = record {
    start = refl;
    is = λ lo hi i. i;
    means = λ lo hi i. record { stored = refl; waiting = λ q. refl };
  }

  -- what waits for keys below these entries may go after what waits in them
  past_rest : (lo : Record) (hi : Option Record) (b : List Record) (r : Tree) → Follow lo hi r
      → AllIn key lo (next_low hi r) b → IsTree key r (low_of lo r) hi
      → SameByKey key (b ++ waiting_in r) (waiting_in r ++ b)
  past_rest lo hi b (leaf xs) f a i = absurd f
  past_rest lo hi b end f a i = λ q. ap (of_key key q) (append-nil b)
  past_rest lo hi b (entry low b2 c2 r2) f a i = ranges_past key lo low hi b
      (waiting_in (entry low b2 c2 r2)) a (waiting_range key (entry low b2 c2 r2) low hi i)

  -- A leaf is split, and what is left in its buffer goes to the two entries by its keys.
  pub leaf_split_pour : (low y z : Record) (ys zs b : List Record) (r : Tree)
      → Keeps key (entry low b (leaf (y ∷ ys ++ z ∷ zs)) r)
      (pour key (entry low [] (leaf (y ∷ ys)) (entry (key z) [] (leaf (z ∷ zs)) r)) b)
  leaf_split_pour low y z ys zs b r =
      let t = entry low b (leaf (y ∷ ys ++ z ∷ zs)) r in
      let clear = entry low [] (leaf (y ∷ ys ++ z ∷ zs)) r in
      let two = entry low [] (leaf (y ∷ ys)) (entry (key z) [] (leaf (z ∷ zs)) r) in
      let split = leaf_split low y z ys zs r in
      let done : (lo : Record) (hi : Option Record) → IsTree key t lo hi
      → Poured key two (pour key two b) b lo hi = λ lo hi i.
      pours key two b lo hi tt (split.is lo hi (i.0, tt, i.2, i.3, i.4))
      (all_wider key lo lo (next_low hi r) hi b (below_itself lo) (upto_next lo hi r i.3) i.1) in
      record {
        start = pour_list_start key low [] (leaf (y ∷ ys)) (entry (key z) [] (leaf (z ∷ zs)) r) b;
        is = λ lo hi i. (done lo hi i).is;
        means = λ lo hi i.
            let d = done lo hi i in
            let m = split.means lo hi (i.0, tt, i.2, i.3, i.4) in
            record {
              stored = d.stored ∙ m.stored;
              waiting = λ q. past_rest lo hi b r i.3 i.1 i.4 q ∙ d.waiting q;
            };
      }
