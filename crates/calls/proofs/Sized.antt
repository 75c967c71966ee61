-- The limits, compared with the sizes of the lent memory and with the numbers that the code passes on. No other proof
-- computes with the paper's limits, but the examples and the figures of the longest list (Move of the rules).
use mathlib.Core.Path.{◌≡◌, refl}
use Rattle.rules.specs.State.{Limits, paper_limits}
use Rattle.rules.proofs.{Replay.Movable, Move.movable-paper}
use Rattle.store_queues.specs.Slots.{slot_count}
use Rattle.list_image.specs.Image.{image_size}

pub record Sized (L : Limits) : Type 0 where
  -- an image has a number for each place
  pub places : L.places ≡ image_size
  -- there is a slot for each record of the nine queues
  pub room : L.room ≡ slot_count
  -- the longest list can be played
  pub list : Movable L

pub paper-sized : Sized paper_limits
unfolding paper_limits
paper-sized = record { places = refl; room = refl; list = movable-paper }
