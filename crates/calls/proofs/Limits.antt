-- What is known of a controller's limits.
use Rattle.numbers.proofs.Basics.{ℕ, ◌≡◌, refl, sym, ◌∙◌, subst}
use Rattle.rules.specs.State.{paper_limits}
use Rattle.list_image.specs.Image.{image_size}
use Rattle.calls.proofs.Sized.{Sized, paper-sized}
use Rattle.store.specs.declared.Controller.{Controller}
use Rattle.calls.specs.Limits.{limits_of}

-- they are the paper's, for every controller; nothing else looks into the definition
pub limits-made : (c : Controller) → limits_of c ≡ paper_limits
unfolding limits_of
limits-made c = refl

-- and so no call changes them
pub limits-kept : (c c' : Controller) → limits_of c' ≡ limits_of c
limits-kept c c' = limits-made c' ∙ sym (limits-made c)

pub limits-sized : (c : Controller) → Sized (limits_of c)
limits-sized c = subst Sized (sym (limits-made c)) paper-sized

-- a table of as many places as the code asks for has the controller's; one of another length has not
module _ (c : Controller) (n : ℕ) where
  pub right-length : n ≡ image_size → n ≡ (limits_of c).places
  right-length e = e ∙ sym (limits-sized c).places

  pub wrong-length : (n ≡ image_size → ⊥) → n ≡ (limits_of c).places → ⊥
  wrong-length w e = w (e ∙ (limits-sized c).places)
