-- A table as an image, and from one.
use Rattle.std.specs.Prelude.{ℕ, zero, suc, List, get_or, set, replicate}
use Rattle.adapters.specs.declared.Place.{Place}
use Rattle.adapters.specs.Values.{unused}
use Rattle.list_image.specs.Image.{image_size, packed, unpacked}

-- an image that has the first n places of a table, then unused ones
unfoldable pub snap_to : List Place → ℕ → List ℕ
snap_to t zero = replicate image_size 0
snap_to t (suc n) = set (snap_to t n) n (packed (get_or t n unused))

-- a table whose first n places are those of an image; the rest stays
unfoldable pub restored : List Place → List ℕ → ℕ → List Place
restored t all zero = t
restored t all (suc n) = set (restored t all n) n (unpacked (get_or all n 0))
