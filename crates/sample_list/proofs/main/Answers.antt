-- `main` calls each function as it may be called: the memory and the image are fresh, and as they should be after the requests.
use Rattle.list_image.proofs.Laws.{imaged-zeros}
use Rattle.sample_list.proofs.main.Goals as goal

-- src/main.rt:84:9
pub make-made-requires : goal.make-made-requires
make-made-requires c = (c.fresh.ensures.fresh.0, rw c.empty-image.ensures imaged-zeros)
