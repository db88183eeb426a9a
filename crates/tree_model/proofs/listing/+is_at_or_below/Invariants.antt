use Rattle.tree_model.proofs.listing.+is_at_or_below.Given as goal

-- a parent has a lower number
abbrev pub decreases-is_at_or_below : goal.decreases-is_at_or_below
decreases-is_at_or_below g l = l.number
