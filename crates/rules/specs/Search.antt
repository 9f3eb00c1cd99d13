-- Searches among the indexes below n. Each goes by recursion on n, so that a loop that counts up makes one step of it a turn.
use Rattle.std.specs.Bool.{then_some}
use Rattle.std.specs.Option.{option_or}
use Rattle.std.specs.Prelude.{ℕ, zero, suc, ◌+◌, Bool, true, false, ◌&&◌, ◌||◌, if◌then◌else◌}
use Rattle.std.specs.Prelude.{Option, None, Some}
use Rattle.pack.specs.Notation.{◌<ᵇ◌}

-- whether some index below n has the property
abbrev pub any_below : (ℕ → Bool) → ℕ → Bool
any_below p zero = false
any_below p (suc n) = any_below p n || p n

-- whether every index below n has it
abbrev pub every_below : (ℕ → Bool) → ℕ → Bool
every_below p zero = true
every_below p (suc n) = every_below p n && p n

-- the first and the latest index below n that has it
abbrev pub first_below : (ℕ → Bool) → ℕ → Option ℕ
first_below p zero = None
first_below p (suc n) = option_or (first_below p n) (then_some (p n) n)

abbrev pub latest_below : (ℕ → Bool) → ℕ → Option ℕ
latest_below p zero = None
latest_below p (suc n) = option_or (then_some (p n) n) (latest_below p n)

-- how many indexes below n have it
abbrev pub count_below : (ℕ → Bool) → ℕ → ℕ
count_below p zero = 0
count_below p (suc n) = if p n then count_below p n + 1 else count_below p n

-- f 0 + f 1 + .. + f (n - 1)
abbrev pub sum_below : (ℕ → ℕ) → ℕ → ℕ
sum_below f zero = 0
sum_below f (suc n) = sum_below f n + f n

-- of two, where there are any, the earlier, unless the later goes over it; and of what f gives below n
abbrev pub better : (over : ℕ → ℕ → Bool) → Option ℕ → Option ℕ → Option ℕ
better over None y = y
better over (Some a) None = Some a
better over (Some a) (Some b) = Some (if over a b then b else a)

abbrev pub best_below : (over : ℕ → ℕ → Bool) → (ℕ → Option ℕ) → ℕ → Option ℕ
best_below over f zero = None
best_below over f (suc n) = better over (best_below over f n) (f n)

-- the larger and the smaller of two, and of what f gives below n, where it gives anything
abbrev pub larger : Option ℕ → Option ℕ → Option ℕ
larger = better (λ a b. a <ᵇ b)

abbrev pub smaller : Option ℕ → Option ℕ → Option ℕ
smaller = better (λ a b. b <ᵇ a)

abbrev pub max_below : (ℕ → Option ℕ) → ℕ → Option ℕ
max_below = best_below (λ a b. a <ᵇ b)

abbrev pub min_below : (ℕ → Option ℕ) → ℕ → Option ℕ
min_below = best_below (λ a b. b <ᵇ a)

-- the index below n that has the property and the least key, the first of equals
abbrev pub lower_key : (ℕ → ℕ) → Option ℕ → ℕ → ℕ
lower_key key None n = n
lower_key key (Some m) n = if key n <ᵇ key m then n else m

abbrev pub least_below : (ℕ → ℕ) → (ℕ → Bool) → ℕ → Option ℕ
least_below key p zero = None
least_below key p (suc n) = if p n then Some (lower_key key (least_below key p n) n) else least_below key p n

-- numbers in rising order, by rank: `least b` is the least of them from b on
abbrev pub next_rank : (ℕ → Option ℕ) → Option ℕ → Option ℕ
next_rank least None = None
next_rank least (Some s) = least (s + 1)

abbrev pub ranked : (ℕ → Option ℕ) → ℕ → Option ℕ
ranked least zero = least 0
ranked least (suc r) = next_rank least (ranked least r)
