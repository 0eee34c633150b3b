-- Strips that are cut off one after another, and the chain whose points they have.
use Rattle.std.proofs.Common.{◌≡◌, ℕ, suc, ◌-◌, ◌*◌, ◌<◌, ◌≤◌, List, [], ◌∷◌, ◌++◌, length, map, refl, sym, ap, subst, ◌∙◌, arith, append_assoc, IsTrue, true, Result, Ok, Err, IsErrAnd, inl, inr, length-append}
use Rattle.std.proofs.Math.Nat.{mul-le-mul_right}
use Rattle.std.proofs.lemmas.Bool.{cases_lt}
use Rattle.std.proofs.lemmas.List.{append-nil, map-append}
use Rattle.em_record.specs.declared.record.Record.{Record}
use Rattle.em_space.specs.Rig.{RigState, Sound}
use Rattle.em_space.specs.declared.fault.EmFault.{EmFault}
use Rattle.em_space.proofs.Runs.{runs_first, runs_none, runs_then, stops_after, stops_first, stops_wider}
use Rattle.em_space.proofs.Sessions.{session_as, session_others}
use Rattle.em_chain.specs.Chain.{chain_blocks, chain_items}
use Rattle.em_chain.specs.Reader.{IsReader, rest_of}
use Rattle.em_chain.specs.Session.{taking_account}
use Rattle.em_chain.specs.declared.chain.Chain.{Chain}
use Rattle.em_chain.specs.declared.reader.Reader.{Reader}
use Rattle.em_chain.proofs.Sessions.{took_nothing, took_then}
use Rattle.em_segment_model.specs.Points.{joined}
use Rattle.em_segment_model.specs.Sizes.{fan_root}
use Rattle.em_segment_model.specs.Spans.{value_span}
use Rattle.em_segment_model.specs.declared.strip.Span.{Span}
use Rattle.em_segment_model.proofs.Roots.{shape_sized}
use Rattle.em_segment_parts.specs.Chains.{chains_blocks, chains_count, chains_held, chains_in, chains_lists}
use Rattle.em_segment_parts.specs.Splits.{AreCut, CanSplit, SplitsAll, SplitsOff, SplitsSome, SplitsSomeTo, StopsSome, StopsSplit, strips_account, strips_in}
use Rattle.em_segment_parts.specs.declared.list.Listed.{Listed}
use Rattle.em_segment_parts.specs.declared.splitting.Strips.{Strips}
use Rattle.em_segment_parts.proofs.Chains.{blocks_append, chains_append, chains_length, chains_stay, count_append, held_append, lists_append}
use Rattle.em_segment_parts.proofs.Regrouping.{session_turned}

-- Strips so far, of so many points, and how many points are left: while there are some, all strips have
-- the most points.
pub record SplitsLeft (most left : ℕ) (s t : RigState) (r q : Reader) (z : Strips) : Type 0 where
  pub splits : SplitsSome most s t r q z
  pub left_is : left ≡ q.count
  pub full : 0 < left → length z.points.items * most ≡ length splits.points

-- None yet,
pub splits_none : {most count : ℕ} {s : RigState} {r : Reader} {z : Strips} → Sound s → IsReader s r
    → 0 < most → count ≡ r.count → z.spans.items ≡ [] → z.points.items ≡ []
    → SplitsLeft most count s s r r z
splits_none {most} {count} {s} {r} {z} h i some e spans points =
    let zs : strips_in z ≡ [] = ap chains_in points in
    let n : length z.points.items ≡ 0 = ap (λ (ls : List Listed). length ls) points in
    let m : length z.spans.items ≡ 0 = ap (λ (ks : List Span). length ks) spans in
    let rest = chain_blocks s (rest_of r) in
    let runs = runs_none s rest (taking_account r) h (λ y. (i.chain.told y).holds) in
    record {
      splits = record {
        points = [];
        took = took_nothing i;
        are = rw zs tt;
        cut = rw zs tt;
        len = omega (arith, n, m);
        count_is = ap chains_count zs;
        few = rw n (omega (arith, some));
        some = omega (arith, n);
        lists = λ y. rw zs refl;
        spans = λ y. rw (spans, zs) refl;
        runs = rw (n, zs) record {
          session = rw (append-nil rest) runs.session;
          frames = runs.frames;
          spends = record {
            held = omega arith;
            used = omega arith;
            most = omega arith;
            moves = omega arith;
            later = omega arith;
            pays = runs.spends.pays;
          };
        };
      };
      left_is = e;
      full = λ l. rw n (omega arith);
    }

joined_append : (xss yss : List (List Record)) → joined (xss ++ yss) ≡ joined xss ++ joined yss
joined_append [] yss = refl
joined_append (xs ∷ xss) yss =
    ap (λ (zs : List Record). xs ++ zs) (joined_append xss yss)
    ∙ sym (append_assoc xs (joined xss) (joined yss))

cut_append : (most : ℕ) (cs : List Chain) (c : Chain) → AreCut most cs → 0 < c.count → c.count ≤ most
    → AreCut most (cs ++ (c ∷ []))
cut_append most [] c h l m = ((l, m), tt)
cut_append most (d ∷ cs) c h l m = (h.0, cut_append most cs c h.1 l m)

-- the strips with one more
strips_push : (z y : Strips) (c : Chain) → y.points.items ≡ z.points.items ++ record { chain = c } ∷ []
    → strips_in y ≡ strips_in z ++ (c ∷ [])
strips_push z y c e =
    ap chains_in e ∙ map-append (λ (l : Listed). l.chain) z.points.items (record { chain = c } ∷ [])

-- one more,
pub splits_more : {most left number : ℕ} {s t u : RigState} {r q p : Reader} {z y : Strips}
    → 0 < number → number ≤ most → number ≤ left → (number < left → number ≡ most)
    → SplitsLeft most left s t r q z → SplitsOff number t u q p z y
    → SplitsLeft most (left - number) s u r p y
splits_more {most} {left} {number} {s} {t} {u} {r} {q} {p} {z} {y} some high fits whole f g =
    let h = f.splits in
    let zs = strips_in z in
    let c = g.chain in
    let ks = chain_blocks t (rest_of q) in
    let js = chains_blocks t zs in
    let rest = chain_blocks u (rest_of p) in
    let ys : strips_in y ≡ zs ++ (c ∷ []) = strips_push z y c g.points_are in
    let st = chains_stay ks t u zs g.runs.session.touches
    (λ d. session_others ks js h.runs.session (sym h.took.told ∙ d)) h.are in
    let told = h.took.told in
    let n : length y.points.items ≡ suc (length z.points.items) =
    ap (λ (ls : List Listed). length ls) g.points_are
    ∙ length-append z.points.items (record { chain = c } ∷ []) ∙ omega arith in
    let m : length y.spans.items ≡ suc (length z.spans.items) =
    ap (λ (ls : List Span). length ls) g.spans_are
    ∙ length-append z.spans.items (value_span g.points ∷ []) ∙ omega arith in
    let all = length-append h.points g.points in
    let len = g.len in
    let equal = h.len in
    let full = f.full (omega (arith, some, fits)) in
    let held = held_append zs (c ∷ []) in
    let count = count_append zs (c ∷ []) in
    let first = h.runs.spends.held in
    let lists = λ (d : IsTrue s.device.told).
    let e : chains_lists u (strips_in y) ≡ chains_lists t zs ++ (g.points ∷ []) =
    ap (chains_lists u) ys ∙ lists_append u zs (c ∷ [])
    ∙ ap (λ (xss : List (List Record)). xss ++ (chain_items u c ∷ [])) (st.lists (told ∙ d))
    ∙ ap (λ (xs : List Record). chains_lists t zs ++ (xs ∷ [])) (g.items (told ∙ d)) in e in
    let one = runs_first js (strips_account zs) (λ d. h.runs.session.holds (sym told ∙ d)) g.runs in
    let both_runs = runs_then h.runs one in
    let turned = session_turned rest (chain_blocks u c) js both_runs.session in
    let sz = chains_length z.points.items in
    let sy = chains_length y.points.items in
    let hy = ap chains_held ys in
    let e = both_runs.spends in
    let g_held = g.runs.spends.held in
    record {
      splits = record {
        points = h.points ++ g.points;
        took = took_then h.points g.points h.took g.took;
        are = rw ys (chains_append u zs (c ∷ []) st.are (g.chain_is, tt));
        cut = rw ys (cut_append most zs c h.cut (omega (arith, g.count_is, some)) (omega (arith, g.count_is, high)));
        len = omega (arith, n, m, equal);
        count_is = rw ys (omega (arith, count, h.count_is, all, g.count_is, len));
        few = rw n (omega (arith, full, all, len, some));
        some = rw ys (omega (arith, n, held, h.some, g.some));
        lists = λ d. ap joined (lists d) ∙ joined_append (chains_lists t zs) (g.points ∷ [])
            ∙ ap (λ (xs : List Record). xs ++ (g.points ++ [])) (h.lists d)
            ∙ ap (λ (xs : List Record). h.points ++ xs) (append-nil g.points);
        spans = λ d. g.spans_are
            ∙ ap (λ (xs : List Span). xs ++ value_span g.points ∷ []) (h.spans d)
            ∙ sym (map-append value_span (chains_lists t zs) (g.points ∷ []))
            ∙ ap (map value_span) (sym (lists d));
        runs = record {
          session = session_as (rest ++ chains_blocks u (strips_in y)) turned (λ d.
              ap (λ (xs : List ℕ). rest ++ xs) (ap (chains_blocks u) ys ∙ blocks_append u zs (c ∷ [])
              ∙ ap (λ (xs : List ℕ). xs ++ (chain_blocks u c ++ [])) (st.blocks (told ∙ d))
              ∙ ap (λ (xs : List ℕ). js ++ xs) (append-nil (chain_blocks u c))));
          frames = both_runs.frames;
          spends = record {
            held = omega (arith, hy, held, n, first, g_held);
            used = omega (arith, e.used, hy, held);
            most = omega (arith, e.most, n, first);
            moves = omega (arith, e.moves, hy, held, n, sz, sy);
            later = e.later;
            pays = e.pays;
          };
        };
      };
      left_is = omega (arith, f.left_is, g.took.left_is, len);
      full = λ l. let w = whole (omega (arith, l)) in rw n (omega (arith, full, all, len, w));
    }

-- The reader and the strips can be cut on.
pub splits_can : {most left : ℕ} {s t : RigState} {r q : Reader} {z : Strips} → r.taking ≡ true
    → SplitsLeft most left s t r q z → CanSplit t q z
splits_can taking f =
    let h = f.splits in
    record {
      reader = h.took.is;
      taking = h.took.taking ∙ taking;
      strips = h.are;
      len = h.len;
      holds = λ d. h.runs.session.holds (sym h.took.told ∙ d);
    }

-- While points are left there are fewer strips than a node may have,
pub splits_few : {most left : ℕ} {s t : RigState} {r q : Reader} {z : Strips} → Sound s → 0 < left
    → r.count ≤ fan_root s.pool.shape * most → SplitsLeft most left s t r q z
    → length z.points.items < fan_root s.pool.shape
splits_few {most} {left} {s} {t} {r} {q} {z} sound some fits f =
    let n = length z.points.items in
    let k = fan_root s.pool.shape in
    let full = f.full some in
    let left_is = f.left_is in
    let took = f.splits.took.left_is in
    elim (cases_lt n k) [
      | inl less ↦ less
      | inr many ↦
          let m : k * most ≤ n * most = mul-le-mul_right most many in
          absurd (omega (arith, m, full, left_is, took, some, fits))
    ]

-- and room for one more.
pub strips_room : {s : RigState} (n : ℕ) → Sound s → n < fan_root s.pool.shape → n < 16
strips_room {s} n sound l = let h = (shape_sized s.pool.shape sound.shape).s_high in omega (arith, l, h)

-- The next strip couldn't be made.
pub splits_stop : {most left : ℕ} {s t u : RigState} {r q : Reader} {z : Strips} {e : EmFault} → Sound s
    → 0 < left → r.count ≤ fan_root s.pool.shape * most → SplitsLeft most left s t r q z
    → StopsSplit t u q e → StopsSome (fan_root s.pool.shape) s u r e
splits_stop {most} {left} {s} {t} {u} {r} {q} {z} {e} sound some fits f g =
    let h = f.splits in
    let few = splits_few sound some fits f in
    let held = h.runs.spends.held in
    let sz = chains_length z.points.items in
    record {
      stops = stops_wider (omega (arith, few, held)) (omega (arith, few, held, sz)) (omega arith)
          (stops_after h.runs
          (stops_first (chains_blocks t (strips_in z)) (strips_account (strips_in z)) g.stops));
    }

pub splits_err : (most : ℕ) (s t : RigState) (r q : Reader) (result : Result Strips EmFault) (e : EmFault)
    → IsErrAnd result (λ f. f ≡ e) → StopsSome (fan_root s.pool.shape) s t r e
    → SplitsSomeTo most s t r q result
splits_err most s t r q (Ok x) e h k = absurd h
splits_err most s t r q (Err f) e h k =
    subst (λ (m : EmFault). StopsSome (fan_root s.pool.shape) s t r m) (sym h) k

-- No point is left.
pub splits_done : {most left : ℕ} {s t : RigState} {r q : Reader} {z : Strips} → left ≡ 0
    → SplitsLeft most left s t r q z → SplitsAll most s t r q z
splits_done e f = let l = f.left_is in record { none = omega (arith, e, l); splits = f.splits }
