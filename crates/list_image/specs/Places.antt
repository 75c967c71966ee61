-- 01, 'What it holds': the adapter places that the numbers of an image stand for.
use Rattle.std.specs.Prelude.{ℕ, ◌≡◌, List, map, length}
use Rattle.rules.specs.State as rules
use Rattle.rules.specs.Invariant.{All}
use Rattle.adapters.specs.Values.{place_of, Canonical}
use Rattle.list_image.specs.Image.{image_size, unpacked}

unfoldable pub places_of : List ℕ → List rules.Place
places_of image = map (λ b. place_of (unpacked b)) image

-- every place of an image is one that the requests make
unfoldable pub AllCanonical : List ℕ → Type 0
AllCanonical image = All Canonical (map unpacked image)

-- an image of a whole table
pub record Imaged (image : List ℕ) : Type 0 where
  pub whole : length image ≡ image_size
  pub canonical : AllCanonical image
