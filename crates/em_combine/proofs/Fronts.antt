-- Operations are joined at the front of a list, one after another.
use Rattle.std.proofs.Common.{◌≡◌, ℕ, ◌+◌, ◌<◌, ◌≤◌, List, [], ◌∷◌, ◌++◌, length, get_or, set, take, drop, refl, sym, ap, subst, ◌∙◌, arith, append-nil, length-append, length-set, length-drop, length-take-le}
use Rattle.std.proofs.lemmas.List.{drop_all, drop_more, take_more}
use Rattle.std.proofs.lemmas.Grind.{take-set_at}
use Rattle.std.proofs.Math.Seq.{take-append_seam, take-length}
use Rattle.em_record.specs.declared.record.Record.{Record}
use Rattle.em_record.specs.Order.{in_order}
use Rattle.em_record.proofs.Order.{length_order}
use Rattle.em_settle.specs.Add.{IsAssociative}
use Rattle.em_combine.specs.Front.{joined_at, JoinsNext, JoinsSome}
use Rattle.em_combine.specs.Gather.{IsGather}
use Rattle.em_combine.specs.Joining.{joined, CameInTurn, IsAfter, JoinsLoad}
use Rattle.em_combine.proofs.Loads.{joins_load}
use Rattle.em_combine.proofs.Turns.{turn_push}

-- equal lists with a first record have equal rests
rests : (x y : Record) (xs ys : List Record) → x ∷ xs ≡ y ∷ ys → xs ≡ ys
rests x y xs ys e = cc

firsts : (x y : Record) (xs ys : List Record) → x ∷ xs ≡ y ∷ ys → x ≡ y
firsts x y xs ys e = cc

module _ (apply : ℕ → ℕ → ℕ) where
  -- Nothing was joined yet.
  pub some_first : (xs : List Record) → 1 ≤ length xs → JoinsSome apply xs xs 0 1
  some_first xs h = record {
    joined = λ d. refl;
    before = omega arith;
    within = h;
    behind = refl;
    long = refl;
  }

  -- One operation more.
  pub some_next : (old xs ys : List Record) (kept at now : ℕ) → JoinsSome apply old xs kept at
      → at < length old → (d : Record) → JoinsNext apply xs ys kept (get_or xs at d) now
      → JoinsSome apply old ys now (at + 1)
  some_next old xs ys kept at now h less d s =
      let long = h.long in
      let cut : get_or xs at d ∷ drop (at + 1) xs ≡ get_or old at d ∷ drop (at + 1) old =
      sym (drop_more xs at d (omega arith)) ∙ (h.behind ∙ drop_more old at d less) in
      let rest : drop (at + 1) xs ≡ drop (at + 1) old = rests _ _ _ _ cut in
      let next : get_or xs at d ≡ get_or old at d = firsts _ _ _ _ cut in
      let there : drop at old ≡ get_or xs at d ∷ drop (at + 1) old =
      drop_more old at d less ∙ ap (λ (z : Record). z ∷ drop (at + 1) old) (sym next) in
      let before = h.before in
      let most = s.most in
      record {
        joined = λ e. h.joined e ∙ (ap (joined_at apply xs kept e) there ∙ s.joined (drop (at + 1) old) e);
        before = omega arith;
        within = omega arith;
        behind = s.behind (at + 1) (omega arith) ∙ rest;
        long = s.long ∙ long;
      }

  -- a list with a first record, before anything is joined
  begun : (xs : List Record) (d : Record) → 1 ≤ length xs
      → joined apply xs ≡ joined_at apply xs 0 d (drop 1 xs)
  begun [] d h = absurd (omega arith)
  begun (x ∷ xs) d h = refl

  -- All operations were joined.
  pub some_all : (old xs : List Record) (kept at : ℕ) → JoinsSome apply old xs kept at → length old ≤ at
      → (d : Record) → take (kept + 1) xs ≡ joined apply old
  some_all old xs kept at h most d =
      let long = h.long in
      let before = h.before in
      let within = h.within in
      let end : drop at old ≡ [] = drop_all at old most in
      let last : take (kept + 1) xs ≡ take kept xs ++ get_or xs kept d ∷ [] = take_more xs kept d (omega arith) in
      last ∙ (sym (h.joined d ∙ ap (joined_at apply xs kept d) end) ∙ sym (begun old d (omega arith)))

-- all of a list was written
written : (xs ws : List Record) → length ws ≡ length xs
    → take (length xs) (ws ++ drop (length ws) xs) ≡ ws
written xs ws e =
    ap (λ (zs : List Record). take (length xs) (ws ++ zs)) (drop_all (length ws) xs (omega arith))
    ∙ (ap (take (length xs)) (append-nil ws)
    ∙ (ap (λ (k : ℕ). take k ws) (sym e) ∙ take-length ws))

-- An operation was put after a load.
pub gather_push : (xs ws : List Record) (n : ℕ) (op : Record) → ws ≡ xs → n < length xs → IsGather xs n
    → IsAfter (take n xs) op.b
    → IsGather (take (length xs) (set ws n op ++ drop (length (set ws n op)) xs)) (n + 1)
gather_push xs ws n op e less g after =
    let P : List Record → Type 0 = λ zs. IsGather (take (length xs) (set zs n op ++ drop (length (set zs n op)) xs)) (n + 1) in
    let Q : List Record → Type 0 = λ zs. IsGather zs (n + 1) in
    let long = length-set xs n op in
    subst P (sym e) (subst Q (sym (written xs (set xs n op) long)) (record {
      within = omega arith;
      turn = subst CameInTurn (sym (take-set_at xs n (n + 1) op refl less))
          (turn_push (take n xs) op g.turn after);
    }))

-- What a join of the first n records leaves.
pub record JoinsFront (apply : ℕ → ℕ → ℕ) (xs zs : List Record) (n m : ℕ) : Type 0 where
  pub is : IsGather zs m
  pub joins : JoinsLoad apply (take n xs) (take m zs)
  pub long : length zs ≡ length xs

-- The first records were put in order and joined.
joins_front : (apply : ℕ → ℕ → ℕ) → IsAssociative apply → (xs vs : List Record) (n m : ℕ)
    → IsGather xs n → length vs ≡ length xs → m ≤ n
    → take m vs ≡ joined apply (in_order (take n xs)) → JoinsFront apply xs vs n m
joins_front apply assoc xs vs n m g long most e =
    let P : List Record → Type 0 = JoinsLoad apply (take n xs) in
    let load : JoinsLoad apply (take n xs) (take m vs) =
    subst P (sym e) (joins_load apply assoc (take n xs) g.turn) in
    let within = g.within in
    record {
      is = record { within = omega arith; turn = load.turn };
      joins = load;
      long = long;
    }

-- a list whose first records were put in order
sorted_long : (xs ws : List Record) (n : ℕ) → n ≤ length xs → ws ≡ in_order (take n xs) ++ drop n xs
    → (length ws ≡ length xs) × (take n ws ≡ in_order (take n xs))
sorted_long xs ws n within e =
    let front = length_order (take n xs) ∙ length-take-le n xs within in
    let all = length-append (in_order (take n xs)) (drop n xs) in
    let rest = length-drop n xs in
    let long = ap (λ (zs : List Record). length zs) e in (
      omega arith,
      ap (take n) e ∙ (ap (λ (k : ℕ). take k (in_order (take n xs) ++ drop n xs)) (sym front)
          ∙ take-append_seam (in_order (take n xs)) (drop n xs)),
    )

pub gather_join : (apply : ℕ → ℕ → ℕ) → IsAssociative apply → (xs ws rs vs : List Record) (n m : ℕ)
    → IsGather xs n → ws ≡ in_order (take n xs) ++ drop n xs → rs ≡ ws → length vs ≡ length rs → m ≤ n
    → take m vs ≡ joined apply (take n rs)
    → JoinsFront apply xs (take (length ws) (vs ++ drop (length vs) ws)) n m
gather_join apply assoc xs ws rs vs n m g sorted same long most e =
    let s = sorted_long xs ws n g.within sorted in
    let wide : length vs ≡ length ws = long ∙ ap (λ (zs : List Record). length zs) same in
    let P : List Record → Type 0 = λ zs. JoinsFront apply xs zs n m in
    subst P (sym (written ws vs wide)) (joins_front apply assoc xs vs n m g (wide ∙ s.0) most
    (e ∙ (ap (λ (zs : List Record). joined apply (take n zs)) same ∙ ap (joined apply) s.1)))

pub sorted_room : (xs ws rs : List Record) (n : ℕ) → n ≤ length xs
    → ws ≡ in_order (take n xs) ++ drop n xs → rs ≡ ws → n ≤ length rs
sorted_room xs ws rs n within e same =
    let s = sorted_long xs ws n within e in
    let t = ap (λ (zs : List Record). length zs) same in
    let u = s.0 in omega arith
