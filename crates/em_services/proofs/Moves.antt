-- The moves of a batch's calls, and those of the lists of its syncs, as often as there were syncs and once more.
use Rattle.std.proofs.Common.{◌≡◌, ℕ, ◌+◌, ◌*◌, ◌≤◌, max, subst, arith}
use Rattle.std.proofs.Math.Nat.{mul-le-mul_left, mul-le-mul_right}
use Rattle.em_record.specs.Shape.{IsShape, ShapeNumbers}
use Rattle.em_tree_cost.specs.Fusing.{synced_share}
use Rattle.em_tree_cost.specs.Shares.{batch_share}
use Rattle.em_services.specs.BatchLaws.{answers_rise}
use Rattle.em_services.specs.BatchService.{answers_share, map_share}

-- Two parts of what is allowed, each as often.
times_both : (y a b spent moves : ℕ) → spent ≤ (y + 1) * a → moves ≤ (y + 1) * b → spent + moves ≤ (y + 1) * (a + b)
times_both y a b spent moves h m = omega (arith, h, m)

once_less : (y a : ℕ) → y * a ≤ (y + 1) * a
once_less y a = omega arith

-- Of the moves of a call these are no batch's own.
within_both : (z a b old new kept extra first last : ℕ) → last + old ≤ first + new + extra → new ≤ (z + 1) * a
    → kept + extra ≤ (z + 1) * b → old + kept + last ≤ first + (z + 1) * (a + b)
within_both z a b old new kept extra first last moves own lists = omega (arith, moves, own, lists)

lists_within : (y z a b extra : ℕ) → y ≤ z → y * a ≤ y * b → extra ≤ b → y * a + extra ≤ (z + 1) * b
lists_within y z a b extra later rise more =
    let times : y * b ≤ z * b = mul-le-mul_right b later in omega (arith, times, rise, more)

-- a batch's share is that without a sync, for each sync and once more
synced_times : (shape : ShapeNumbers) (n y : ℕ) → synced_share shape n y ≡ (y + 1) * batch_share shape n
synced_times shape n y = omega arith

-- as often as there were syncs, for a greater size
pub times_rise : (shape : ShapeNumbers) (m n y : ℕ) → IsShape shape → m ≤ n
    → y * answers_share shape m ≤ y * answers_share shape n
times_rise shape m n y is h = mul-le-mul_left y (answers_rise shape m n is h)

-- All moves so far of a batch with y syncs, and the lists of these, given at sizes up to k, are within what it is allowed for
-- a size.
pub call_moves : (shape : ShapeNumbers) (n k y z old new extra first last : ℕ) → IsShape shape → k ≤ n → y ≤ z
    → last + old ≤ first + new + extra → new ≤ synced_share shape n z → extra ≤ answers_share shape n
    → old + y * answers_share shape k + last ≤ first + (z + 1) * map_share shape n
call_moves shape n k y z old new extra first last is fewer later moves share more =
    let own : new ≤ (z + 1) * batch_share shape n = subst (λ (m : ℕ). new ≤ m) (synced_times shape n z) share in
    let rise = times_rise shape k n y is fewer in
    let lists = lists_within y z (answers_share shape k) (answers_share shape n) extra later rise more in
    within_both z (batch_share shape n) (answers_share shape n) old new (y * answers_share shape k) extra first last
    moves own lists

-- So are those of its calls and of the lists of its syncs.
pub within_map : (shape : ShapeNumbers) (n y spent : ℕ) → spent ≤ synced_share shape n y
    → spent + y * answers_share shape n ≤ (y + 1) * map_share shape n
within_map shape n y spent h =
    let own : spent ≤ (y + 1) * batch_share shape n = subst (λ (m : ℕ). spent ≤ m) (synced_times shape n y) h in
    times_both y (batch_share shape n) (answers_share shape n) spent (y * answers_share shape n) own
    (once_less y (answers_share shape n))

-- A share of these numbers is that of equal ones.
pub share_at : (shape : ShapeNumbers) (spent m n y z : ℕ) → m ≡ n → y ≡ z → spent ≤ synced_share shape m y
    → spent ≤ synced_share shape n z
share_at shape spent m n y z count syncs h =
    subst (λ (k : ℕ). spent ≤ synced_share shape n k) syncs (subst (λ (k : ℕ). spent ≤ synced_share shape k y) count h)

-- What the first call, a command and a sync add to the moves so far.
pub made_spends : (own y a first last : ℕ) → own + first ≡ last → last ≤ first + (own + y + y * a)
made_spends own y a first last e = omega (arith, e)

pub first_within : (a b first last : ℕ) → last ≤ first + 4 → 4 ≤ b → 0 + last ≤ first + (0 + 1) * (a + b)
first_within a b first last moves some = omega (arith, moves, some)

pub take_spends : (y z less more old new first last : ℕ) → z ≡ y → last + old ≤ first + new → y * less ≤ y * more
    → last + (old + y * less) ≤ first + (new + z * more)
take_spends y z less more old new first last same moves rise = rw same (omega (arith, moves, rise))

pub sync_spends : (y z less more old new order lists first mid last : ℕ) → z ≡ y + 1 → last ≤ mid + order
    → mid + old ≤ first + new → order + lists ≤ more → y * less ≤ y * more
    → last + lists + (old + y * less) ≤ first + (new + z * more)
sync_spends y z less more old new order lists first mid last next later moves fits rise =
    rw next (omega (arith, later, moves, fits, rise))

-- Two calls, of which each stays within a room: so do both.
pub two_rooms : (held c beside own order most u w a b x : ℕ) → b + held ≤ max (a + held) (u + own)
    → x + c ≤ max (b + c) (w + order) → w + held ≡ u + (c + beside) → own ≤ most → beside + order ≤ most
    → x + held ≤ max (a + held) (u + most)
two_rooms held c beside own order most u w a b x one two used first last = omega (arith, one, two, used, first, last)
