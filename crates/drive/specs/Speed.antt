-- Document 01, "Speed": normalised figures (16384 is 100 %) and revolutions are two units and are kept apart.
-- Only `scale_of` goes from one to the other.
use Rattle.std.specs.Prelude.{ℕ, pos, nat_abs, ◌-ℤ◌, ◌*ℤ◌}
use Rattle.std.specs.Int.Signed.{quot_z}
use Rattle.drive.specs.declared.speed.N2.{N2}
use Rattle.drive.specs.declared.speed.Rpm.{Rpm}

-- 100 % of a normalised figure
abbrev pub full : ℕ
full = 16384

-- no speed at all
abbrev pub still : N2
still = record { 0 = pos 0 }

-- the size of a normalised figure
abbrev pub speed_size : N2 → ℕ
speed_size a = nat_abs a.0

-- the distance of two normalised figures
abbrev pub distance_of : N2 → N2 → ℕ
distance_of a b = nat_abs (a.0 -ℤ b.0)

-- rpm = effective setpoint times PNU 10111, divided by 16384, cut toward zero
abbrev pub scale_of : N2 → ℕ → Rpm
scale_of e reference = record { 0 = quot_z (e.0 *ℤ pos reference) (pos full) }
