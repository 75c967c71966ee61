-- What the code's values mean in the rules' terms.
use Rattle.std.specs.Prelude.{ℕ, ◌≤◌, ◌≡◌, Bool, true, false, ◌&&◌, ◌||◌}
use Rattle.rules.specs.Bytes.{choose}
use Rattle.rules.specs.State as rules
use Rattle.rules.specs.State.{has_bit, with_bit, without_bit}
use Rattle.adapters.specs.declared.Device.{Device}
use Rattle.adapters.specs.declared.Place.{Place}
use Rattle.adapters.specs.declared.Injection.{Injection}
use Rattle.adapters.specs.declared.Injection.TheVariants.{NoAdapter, Dropped, Full, Appended}

-- the rules' device record that a device record stands for
abbrev pub device_of : Device → rules.Device
device_of d = record { simm = d.simm; nimm = d.nimm; apf = d.apf }

-- and back
abbrev pub device_from : rules.Device → Device
device_from d = record { simm = d.simm; nimm = d.nimm; apf = d.apf }

-- the rules' adapter and adapter place that a place stands for
abbrev pub adapter_of : Place → rules.Adapter
adapter_of p =
    record {
      isc = p.isc.0;
      maskable = p.maskable;
      swap = p.swap;
      suppressible = p.suppressible;
      masked = p.masked;
    }

unfoldable pub place_of : Place → rules.Place
place_of p = choose p.used (rules.holds (adapter_of p)) rules.free

-- a place with its masked field set
abbrev pub with_masked : Bool → Place → Place
with_masked on p =
    record {
      used = p.used;
      isc = p.isc;
      maskable = p.maskable;
      swap = p.swap;
      suppressible = p.suppressible;
      masked = on;
    }

-- the one unused place: all fields are 0 or false
abbrev pub unused : Place
unused =
    record {
      used = false;
      isc = record { 0 = 0 };
      maskable = false;
      swap = false;
      suppressible = false;
      masked = false;
    }

-- What every place made here satisfies: an unused place has all fields 0 or false, the subclass is below 8, and only a
-- maskable adapter is masked.
pub record Canonical (p : Place) : Type 0 where
  pub unused_one : p.used ≡ false → p ≡ unused
  pub isc_small : p.isc.0 ≤ 7
  pub masked_maskable : p.masked ≡ true → p.maskable ≡ true

-- 01, group 9: the device record with a subclass's mode set
unfoldable pub mode_set : rules.Device → ℕ → Bool → rules.Device
mode_set d isc single =
    record {
      simm = choose single (with_bit isc d.simm) (without_bit isc d.simm);
      nimm = without_bit isc d.nimm;
      apf = d.apf;
    }

-- 01, group 7, type 1: the place masked or unmasked
unfoldable pub masked_as : rules.Place → Bool → rules.Place
masked_as rules.free on = rules.free
masked_as (rules.holds x) on =
    rules.holds
    (record { isc = x.isc; maskable = x.maskable; swap = x.swap; suppressible = x.suppressible; masked = on })

-- 01, group 10: whether suppression applies to the place and its subclass's bit of a mask is set
abbrev pub under_ais : Bool → Place → ℕ → Bool
under_ais ais p mask = ais && (p.suppressible && has_bit p.isc.0 mask)

-- 01, group 10: first whether the adapter is masked or suppressed, then whether there is room
unfoldable pub injection_of : Bool → Device → Place → Bool → Injection
injection_of ais d p full =
    choose p.used
    (choose (p.masked || under_ais ais p d.nimm) Dropped (choose full Full (Appended p.isc))) NoAdapter

-- 01, group 10: an injection that is appended sets nimm in SINGLE mode
unfoldable pub injected_device : Bool → Device → Place → Device
injected_device ais d p =
    record {
      simm = d.simm;
      nimm = choose (under_ais ais p d.simm) (with_bit p.isc.0 d.nimm) d.nimm;
      apf = d.apf;
    }
