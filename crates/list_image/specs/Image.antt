-- An adapter place as one number of 64 bits, of which the lowest eight are in use. From the highest of these on: used,
-- the subclass in three bits, maskable, swap, suppressible, masked. An unused place is 0.
use Rattle.std.specs.Prelude.{ℕ, ◌+◌, ◌*◌, ◌/◌, ◌%◌, true, eqb, ltb}
use Rattle.rules.specs.Bytes.{choose}
use Rattle.rules.specs.MoveList.{one_if}
use Rattle.adapters.specs.declared.Place.{Place}
use Rattle.adapters.specs.Values.{unused}

-- an image has a number for each place
abbrev pub image_size : ℕ
image_size = 64

unfoldable pub packed : Place → ℕ
packed p =
    choose p.used
    (128 + p.isc.0 % 8 * 16 + one_if p.maskable * 8 + one_if p.swap * 4 + one_if p.suppressible * 2
    + one_if p.masked)
    0

unfoldable pub unpacked : ℕ → Place
unpacked b =
    choose (ltb b 128) unused
    (record {
      used = true;
      isc = record { 0 = b / 16 % 8 };
      maskable = eqb (b / 8 % 2) 1;
      swap = eqb (b / 4 % 2) 1;
      suppressible = eqb (b / 2 % 2) 1;
      masked = eqb (b % 2) 1;
    })
