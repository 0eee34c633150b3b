-- What a fusing of two leaves left, as a tree reads it of the entries that lead to the parts.
use Rattle.std.proofs.Common.{◌≡◌, ◌≤◌, List, [], ◌∷◌, ◌++◌, length, sym, ap, ◌∙◌, subst, arith, Option, Some, None}
use Rattle.std.proofs.lemmas.List.{append-nil}
use Rattle.em_record.specs.declared.record.Record.{Record}
use Rattle.em_frames.specs.Pool.{load_of}
use Rattle.em_space.specs.Rig.{RigState}
use Rattle.em_chain.specs.Chain.{chain_items}
use Rattle.em_chain.specs.declared.chain.Chain.{Chain}
use Rattle.em_leaf.specs.Effects.{CutsItems, IsHalved, IsSplit}
use Rattle.em_leaf.specs.Fusing.{FillsParts}
use Rattle.em_leaf.specs.Leaf.{high_items, leaf_most}
use Rattle.em_leaf.specs.declared.change.LeafChange.{LeafChange}
use Rattle.em_leaf.proofs.Entries.{some_first}

module _ (key : Record → Record) (t : RigState) (all : List Record) where
  -- With no high part, all records are in the low one,
  pub fuses_whole : (change : LeafChange) → change.high ≡ None → FillsParts key t all change
      → chain_items t change.low ≡ all
  fuses_whole change e h =
      let none : high_items t change.high ≡ [] = ap (high_items t) e in
      sym (append-nil (chain_items t change.low))
      ∙ (ap (λ zs. chain_items t change.low ++ zs) (sym none) ∙ h.items)

  -- which are not more than a leaf may have.
  pub fuses_few : (change : LeafChange) → change.high ≡ None → FillsParts key t all change
      → length all ≤ leaf_most t.pool.shape
  fuses_few change e h =
      let P : Option (Record × Chain) → Type 0 = λ o. IsSplit key t all change.low o in
      subst P e h.split

  -- With one, they were cut in two, of which neither is empty,
  pub shares_cut : (change : LeafChange) (p : Record × Chain) → change.high ≡ Some p
      → 1 ≤ load_of t.pool.shape → FillsParts key t all change → CutsItems key t all change.low p
  shares_cut change p e some h =
      let P : Option (Record × Chain) → Type 0 = λ o. IsSplit key t all change.low o in
      let halved : IsHalved key t (chain_items t change.low) p.0 (chain_items t p.1) =
      (subst P e h.split).1 in
      let low = halved.low_least in
      let lows = some_first (chain_items t change.low) (omega arith) in
      let two : high_items t change.high ≡ chain_items t p.1 = ap (high_items t) e in
      record {
        first = lows.0;
        others = lows.1;
        second = halved.first;
        rest = halved.others;
        all_are = sym h.items ∙ (ap (λ zs. zs ++ high_items t change.high) lows.2
            ∙ ap (λ zs. lows.0 ∷ lows.1 ++ zs) (two ∙ halved.high_is));
        low_are = lows.2;
        high_are = halved.high_is;
        key_is = halved.key_is;
      }

  -- and neither is short.
  pub shares_halves : (change : LeafChange) (p : Record × Chain) → change.high ≡ Some p
      → FillsParts key t all change → IsHalved key t (chain_items t change.low) p.0 (chain_items t p.1)
  shares_halves change p e h =
      let P : Option (Record × Chain) → Type 0 = λ o. IsSplit key t all change.low o in
      (subst P e h.split).1
