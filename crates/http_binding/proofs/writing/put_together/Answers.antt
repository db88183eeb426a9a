use Rattle.http_binding.proofs.writing.put_together.Goals as goal

pub returns-in_ok-extend_from_slice : goal.returns-in_ok-extend_from_slice
returns-in_ok-extend_from_slice c = cc c.in_ok-extend_from_slice.ensures.items
