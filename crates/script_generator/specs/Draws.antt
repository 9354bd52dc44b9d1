-- What is drawn.
use Rattle.std.specs.Prelude.{ℕ, ◌+◌, ◌*◌, ◌%◌, ◌/◌, ◌^◌}

-- A linear congruential generator.
unfoldable pub next : ℕ → ℕ
next x = (x * 6_364_136_223_846_793_005 + 1_442_695_040_888_963_407) % 2 ^ 64

-- A number below k, by the upper bits of x.
unfoldable pub below : ℕ → ℕ → ℕ
below k x = x / 2 ^ 33 % k

-- A draw below k: x moves on, and gives the number. Behind it stands what x is now.
abbrev pub draw : ℕ → ℕ → ℕ × ℕ
draw k x = (below k (next x), next x)
