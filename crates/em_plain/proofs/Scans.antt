-- A reader that leaves its blocks to a chain, and a writer beside it, one record after another.
use Rattle.std.proofs.Common.{◌≡◌, ℕ, zero, suc, ◌+◌, ◌-◌, ◌*◌, ◌≤◌, List, [], ◌∷◌, ◌++◌, length, take, refl, ap, sym, ◌∙◌, subst, arith, append_assoc, IsTrue, Bool, false, if◌then◌else◌, Ok, Err, Result}
use Rattle.std.proofs.lemmas.List.{append-nil, length-append}
use Rattle.std.proofs.lemmas.Nat.{mul-le}
use Rattle.std.specs.Result.{IsErrAnd}
use Rattle.em_record.specs.declared.record.Record.{Record}
use Rattle.em_model.specs.declared.command.Command.{Command}
use Rattle.em_space.specs.Held.{Apart}
use Rattle.em_space.specs.Rig.{RigState, Sound, Goes}
use Rattle.em_space.specs.declared.fault.EmFault.{EmFault}
use Rattle.em_space.proofs.Held.{apart_none}
use Rattle.em_space.proofs.Within.{within_apart}
use Rattle.em_chain.specs.Chain.{IsChain, chain_blocks, chain_items}
use Rattle.em_chain.specs.Reader.{reader_blocks, reader_items, rest_of}
use Rattle.em_chain.specs.Effects.{LendsFrame, Unmoved}
use Rattle.em_chain.specs.Reads.{Opens, Reads, ReadCosts}
use Rattle.em_chain.specs.Writer.{writer_blocks}
use Rattle.em_chain.specs.declared.chain.Chain.{Chain}
use Rattle.em_chain.specs.declared.reader.Reader.{Reader}
use Rattle.em_chain.specs.declared.writer.Writer.{Writer}
use Rattle.em_space.proofs.Lists.{apart_right}
use Rattle.em_chain.proofs.Keeps.{has_kept}
use Rattle.em_chain.proofs.Laws.{chain_stays, writer_stays}
use Rattle.em_chain.proofs.Readers.{length_items, reader_stays}
use Rattle.em_chain.proofs.Sessions.{took_nothing, took_one, took_stays, took_then}
use Rattle.em_chain.proofs.Writings.{writer_lent}
use Rattle.em_plain.specs.Adds.{Adds, AddsBeside, ReadsAt, ReadsBeside, Scans, Steps, StepsTo, StopsAdding, of_first}
use Rattle.em_plain.specs.Asks.{Asks, answer_for, answer_to}
use Rattle.em_plain.specs.Command.{command_in}
use Rattle.em_plain.specs.Looks.{Looks}
use Rattle.em_plain.proofs.Adds.{adding_writes, adds_as, adds_looked, adds_none, adds_then, beside_stays, stops_as, stops_then}

-- A reader that leaves its blocks to a chain only looks.
pub reader_looks : {T : Type 0} {s t : RigState} {r q : Reader} (result : Result T EmFault)
    → r.taking ≡ false → Goes (reader_blocks s r) s t → ReadCosts s t r q result → Looks s t
reader_looks {s = s} {t = t} {r = r} result over g k =
    let none : reader_blocks s r ≡ [] =
    ap (λ (taking : Bool). if taking then chain_blocks s (rest_of r) else []) over in
    record {
      goes = subst (λ (ks : List ℕ). Goes ks s t) none g;
      used = k.used_over over;
      most = k.most;
    }

pub beside_next : {s t : RigState} {r q : Reader} {w : Writer} {x : Record} → ReadsBeside s r w
    → Looks s t → Reads s t r q x → ReadsBeside t q w
beside_next {s} {t} {r} {q} {w} {x} b l a =
    let n = adds_looked b.writer.writer l in
    let k = writer_stays [] s t w l.goes.touches (λ z. apart_none (writer_blocks s w))
    n.writes.wrote.is.frame b.writer.writer in
    record {
      reader = a.is;
      over = a.taking ∙ b.over;
      writer = adding_writes b.writer n.writes;
      apart = λ y.
          let z : IsTrue s.device.told = sym l.goes.touches.told ∙ y in
          let e = a.blocks z in
          rw (k.blocks z) (apart_right e.gone (chain_blocks t (rest_of q)) (writer_blocks s w)
          (subst (λ (ks : List ℕ). Apart ks (writer_blocks s w)) e.is (b.apart z)));
    }

-- A record was read, and what f gives for it was written,
pub step_more : {most m k : ℕ} {next : ℕ → Record → ℕ} {f : Record → List Record}
    {s t u : RigState} {r q : Reader} {w v : Writer} {x : Record} {ys : List Record}
    → ReadsBeside s r w → Looks s t → Reads s t r q x → Adds most t u w v ys
    → (IsTrue s.device.told → ys ≡ f x) → k ≡ next m x → Steps most m k next f s u r q w v
step_more {most} {m} {k} {next} {f} {s} {t} {u} {r} {q} {w} {v} {x} {ys} b l a h e n =
    let d = beside_next b l a in
    let g = h.writes.runs in
    let st = reader_stays (writer_blocks t w) t u q g.session.touches d.apart
    (has_kept 1 (length q.frame) t.pool u.pool g.frames d.reader.frame) d.reader in
    record {
      item = x;
      took = took_then (x ∷ []) [] (took_one [] l.goes.touches a)
          (took_stays (writer_blocks t w) g.session.touches st);
      adds = adds_as most (f x) (omega arith) e (adds_then (adds_looked b.writer.writer l) h);
      next_is = n;
    }

-- or wasn't, for a fault.
pub step_stops : {most : ℕ} {s t u : RigState} {r q : Reader} {w : Writer} {x : Record}
    {ys : List Record} {e : EmFault} (f : Record → List Record) → ReadsBeside s r w → Looks s t
    → Reads s t r q x → StopsAdding most t u w ys e → (IsTrue s.device.told → ys ≡ f x)
    → StopsAdding most s u w (of_first f (reader_items s r)) e
step_stops {most} {s} {t} {u} {r} {q} {w} {x} {ys} {e} f b l a h n =
    stops_as most (of_first f (reader_items s r)) (omega arith)
    (λ z. let p = ap (λ (zs : List Record). length zs) (n z) in rw (a.items z) (omega (arith, p)))
    (stops_then (adds_looked b.writer.writer l) h)

pub steps_err : (most m : ℕ) (next : ℕ → Record → ℕ) (f : Record → List Record)
    (s t : RigState) (r q : Reader) (w v : Writer) (result : Result ℕ EmFault) (e : EmFault)
    → IsErrAnd result (λ g. g ≡ e)
    → StopsAdding most s t w (of_first f (reader_items s r)) e
    → StepsTo most m next f s t r q w v result
steps_err most m next f s t r q w v (Ok x) e h a = absurd h
steps_err most m next f s t r q w v (Err g) e h a =
    subst (λ (n : EmFault). StopsAdding most s t w (of_first f (reader_items s r)) n) (sym h) a

-- No record was read yet.
pub scans_first : {s : RigState} {r : Reader} {w : Writer} (most m : ℕ) (g : List Record → ℕ)
    (f : List Record → List Record) → Sound s → ReadsBeside s r w → m ≡ 0 → g [] ≡ 0
    → f [] ≡ [] → Scans most 0 m g f s s r r w w
scans_first most m g f h b n i e = record {
  read = [];
  len = refl;
  number = n ∙ sym i;
  fewer = omega (arith, n);
  took = took_nothing b.reader;
  adds = adds_as (0 * most) (f []) (omega arith) (λ z. sym e) (adds_none h b.writer.writer);
}

-- One more was read.
pub scans_more : {most n m k : ℕ} {g : List Record → ℕ} {f : List Record → List Record}
    {next : ℕ → Record → ℕ} {h : Record → List Record} {s t u : RigState} {r q p : Reader}
    {w v o : Writer} (a : Scans most n m g f s t r q w v) (b : Steps most m k next h t u q p v o)
    → (IsTrue s.device.told → f (a.read ++ b.item ∷ []) ≡ f a.read ++ h b.item)
    → g (a.read ++ b.item ∷ []) ≡ next (g a.read) b.item → next m b.item ≤ m + 1
    → Scans most (n + 1) k g f s u r p w o
scans_more {most} {n} {m} {k} {g} {f} {next} {h} {s} {t} {u} {r} {q} {p} {w} {v} {o} a b e i j =
    let l = length-append a.read (b.item ∷ []) in
    record {
      read = a.read ++ b.item ∷ [];
      len = omega (arith, l, a.len);
      fewer = omega (arith, a.fewer, b.next_is, j);
      number = b.next_is ∙ ap (λ (j : ℕ). next j b.item) a.number ∙ sym i;
      took = took_then a.read (b.item ∷ []) a.took b.took;
      adds = adds_as ((n + 1) * most) (f (a.read ++ b.item ∷ [])) (grind arith) (λ z. sym (e z))
          (adds_then a.adds b.adds);
    }

-- They are beside each other still.
pub scans_beside : {most n m : ℕ} {g : List Record → ℕ} {f : List Record → List Record}
    {s t : RigState} {r q : Reader} {w v : Writer} → ReadsBeside s r w
    → Scans most n m g f s t r q w v → ReadsBeside t q v
scans_beside {s = s} {t = t} {r = r} {q = q} {w = w} {v = v} b a =
    let h = a.adds.writes.runs.session in
    record {
      reader = a.took.is;
      over = a.took.taking ∙ b.over;
      writer = adding_writes b.writer a.adds.writes;
      apart = λ y.
          let z : IsTrue s.device.told = sym h.touches.told ∙ y in
          let e = a.took.blocks z in
          let d = within_apart s (writer_blocks s w) (writer_blocks t v)
          (chain_blocks s (rest_of r)) z h.within (b.reader.chain.told z).holds.in_use (b.apart z) in
          apart_right e.gone (chain_blocks t (rest_of q)) (writer_blocks t v)
          (subst (λ (ks : List ℕ). Apart ks (writer_blocks t v)) e.is d);
    }

-- the front of a list that has these records first
pub take_front : (xs ys : List Record) (n : ℕ) → take (length xs + n) (xs ++ ys) ≡ xs ++ take n ys
take_front [] ys n = let e : 0 + n ≡ n = omega arith in rw e refl
take_front (x ∷ xs) ys n =
    let e : suc (length xs) + n ≡ suc (length xs + n) = omega arith in
    rw e (ap (λ (zs : List Record). x ∷ zs) (take_front xs ys n))

pub take_those : (xs ys : List Record) (n : ℕ) → length xs ≡ n → take n (xs ++ ys) ≡ xs
take_those xs ys n e =
    let d : n ≡ length xs + 0 = omega arith in
    ap (λ (k : ℕ). take k (xs ++ ys)) d ∙ take_front xs ys 0 ∙ append-nil xs

take_none : (n : ℕ) → take {A = Record} n [] ≡ []
take_none zero = refl
take_none (suc n) = refl

-- Of this many records these were read, and f of the next one isn't beyond f of all.
pub front_more : (f : List Record → List Record) (h : Record → List Record)
    (xs ys : List Record) (n : ℕ) → length xs + 1 ≤ n
    → ((x : Record) → f (xs ++ x ∷ []) ≡ f xs ++ h x)
    → ((zs os : List Record) → length (f zs) ≤ length (f (zs ++ os)))
    → length (f xs ++ of_first h ys) ≤ length (f (take n (xs ++ ys)))
front_more f h xs [] n l e r =
    let d : n ≡ length xs + (n - length xs) = omega arith in
    let t : take n (xs ++ []) ≡ xs ++ [] =
    ap (λ (k : ℕ). take k (xs ++ [])) d ∙ take_front xs [] (n - length xs)
    ∙ ap (λ (zs : List Record). xs ++ zs) (take_none (n - length xs)) in
    rw (t, append-nil (f xs)) (r xs [])
front_more f h xs (y ∷ ys) n l e r =
    let k = n - length xs - 1 in
    let d : n ≡ length xs + suc k = omega arith in
    let t : take n (xs ++ y ∷ ys) ≡ (xs ++ y ∷ []) ++ take k ys =
    ap (λ (j : ℕ). take j (xs ++ y ∷ ys)) d ∙ take_front xs (y ∷ ys) (suc k)
    ∙ sym (append_assoc xs (y ∷ []) (take k ys)) in
    rw (t, ← (e y)) (r (xs ++ y ∷ []) (take k ys))

-- The next record was refused.
pub scans_stops : {most n m : ℕ} {g : List Record → ℕ} {f : List Record → List Record}
    {s t u : RigState} {r q : Reader} {w v : Writer} {e : EmFault} (h : Record → List Record)
    (number : ℕ) (a : Scans most n m g f s t r q w v)
    → StopsAdding most t u v (of_first h (reader_items t q)) e → n + 1 ≤ number
    → (IsTrue s.device.told → (x : Record) → f (a.read ++ x ∷ []) ≡ f a.read ++ h x)
    → ((zs os : List Record) → length (f zs) ≤ length (f (zs ++ os)))
    → StopsAdding (number * most) s u w (f (take number (reader_items s r))) e
scans_stops {most} {n} {m} {g} {f} {s} {t} {u} {r} {q} {w} {v} {e} h number a b l i k =
    let j = mul-le (n + 1) most number most l (omega arith) in
    stops_as (number * most) (f (take number (reader_items s r)))
    (let d : n * most + most ≡ (n + 1) * most = grind arith in omega (arith, d, j))
    (λ z. rw (a.took.items z) (front_more f h a.read (reader_items t q) number
    (omega (arith, a.len, l)) (i z) k))
    (stops_then a.adds b)

-- All were read.
pub scans_all : {most n m : ℕ} {g : List Record → ℕ} {f : List Record → List Record}
    {s t : RigState} {r q : Reader} {w v : Writer} (number : ℕ) → n ≡ number
    → Scans most n m g f s t r q w v
    → Adds (number * most) s t w v (f (take number (reader_items s r)))
scans_all {most} {n} {m} {g} {f} {s} {t} {r} {q} {w} {v} number e a =
    adds_as (number * most) (f (take number (reader_items s r))) (rw e (omega arith))
    (λ z. ap f (sym (take_those a.read (reader_items t q) number (a.len ∙ e))
    ∙ ap (λ (zs : List Record). take number zs) (sym (a.took.items z)))) a.adds

-- The records of a chain that were read are its first ones.
pub reads_on : {most n m : ℕ} {g : List Record → ℕ} {f : List Record → List Record}
    {s t : RigState} {c : Chain} {r q : Reader} {w v : Writer} → AddsBeside s c w
    → ReadsAt s c r 0 → (a : Scans most n m g f s t r q w v)
    → ReadsAt t c q n × (IsTrue s.device.told → take n (chain_items t c) ≡ a.read)
reads_on {n = n} {s = s} {t = t} {c = c} {r = r} {q = q} b h a =
    let k = beside_stays b a.adds in
    let items = λ (z : IsTrue s.device.told). k.items z ∙ h.items z ∙ a.took.items z in
    let first = λ (z : IsTrue s.device.told).
    ap (λ (zs : List Record). take n zs) (items z) ∙ take_those a.read (reader_items t q) n a.len in (
      record {
        count = omega (arith, a.took.left_is, h.count, a.len);
        items = λ y.
            let z : IsTrue s.device.told = sym a.took.told ∙ y in
            items z ∙ ap (λ (zs : List Record). zs ++ reader_items t q) (sym (first z));
        blocks = λ y.
            let z : IsTrue s.device.told = sym a.took.told ∙ y in
            let d = h.blocks z in
            let e = a.took.blocks z in
            record {
              gone = d.gone ++ e.gone;
              is = k.blocks z ∙ d.is ∙ ap (λ (ks : List ℕ). d.gone ++ ks) e.is
                  ∙ sym (append_assoc d.gone e.gone _);
            };
      },
      first,
    )

-- A frame was lent beside a writer and a chain,
pub beside_lent : {s t : RigState} {c : Chain} {w : Writer} → AddsBeside s c w → LendsFrame s t
    → Unmoved s t → AddsBeside t c w
beside_lent {s} {t} {c} {w} b l u =
    let i = b.writer in
    let k = writer_lent i.writer l in
    let m = chain_stays [] s t c l.touches (λ z. apart_none (chain_blocks s c)) b.chain in
    record {
      chain = m.is;
      writer = record {
        writer = k.is;
        filled_is = k.filled_is ∙ i.filled_is;
        held = omega (arith, i.held, u.same.used);
      };
      apart = λ y.
          let z : IsTrue s.device.told = sym l.touches.told ∙ y in
          rw (m.blocks z, k.blocks z) (b.apart z);
    }

-- and a reader of the chain was made with it.
pub beside_opens : {s t : RigState} {c : Chain} {r : Reader} {w : Writer} → AddsBeside s c w
    → LendsFrame s t → Unmoved s t → Opens s t c false r → ReadsBeside t r w
beside_opens {s} {t} {c} {r} {w} b l u o =
    let k = writer_lent b.writer.writer l in
    record {
      reader = o.is;
      over = o.taking_is;
      writer = (beside_lent b l u).writer;
      apart = λ y.
          let z : IsTrue s.device.told = sym l.touches.told ∙ y in
          rw (o.blocks z, k.blocks z) (b.apart z);
    }

-- It reads all of the chain.
pub opens_reads : {s t : RigState} {c : Chain} {r : Reader} → IsChain s c → LendsFrame s t
    → Opens s t c false r → ReadsAt t c r 0
opens_reads {s} {t} {c} {r} i l o =
    let m = chain_stays [] s t c l.touches (λ z. apart_none (chain_blocks s c)) i in
    let n = ap (λ (d : Chain). d.count) o.words in
    record {
      count = omega (arith, n);
      items = λ y. let z : IsTrue s.device.told = sym l.touches.told ∙ y in m.items z ∙ sym (o.items z);
      blocks = λ y.
          let z : IsTrue s.device.told = sym l.touches.told ∙ y in
          record { gone = []; is = m.blocks z ∙ sym (o.blocks z) };
    }

pub reads_all : {s : RigState} {c : Chain} {r : Reader} → IsChain s c → ReadsAt s c r 0
    → IsTrue s.device.told → take c.count (reader_items s r) ≡ chain_items s c
reads_all {s} {c} {r} i h z =
    ap (λ (xs : List Record). take c.count xs) (sym (h.items z) ∙ sym (append-nil (chain_items s c)))
    ∙ take_those (chain_items s c) [] c.count (length_items s c i z)

-- the answer to a command that was read
pub answer_looked : {s t : RigState} {c : Chain} {w : Writer} (asks : Asks) (number stab : ℕ)
    (d : Command) (x : Record) → AddsBeside s c w → Looks s t → d ≡ command_in x
    → IsTrue s.device.told → answer_to asks number stab (take number (chain_items t c)) d
    ≡ answer_for asks number stab (chain_items s c) x
answer_looked {s} {t} {c} {w} asks number stab d x b l e z =
    let k = beside_stays b (adds_looked b.writer.writer l) in
    rw (k.items z, e) refl
