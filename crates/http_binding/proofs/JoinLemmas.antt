-- A head and the body that stands behind room for one.
use Rattle.std.proofs.Common.{◌≡◌, ℕ, ◌-◌, ◌≤◌, List, ◌++◌, length, take, drop, ap, ◌∙◌, arith}
use Rattle.std.proofs.lemmas.List.{drop_at, drop-drop, length-take-le}
use borrow.Rule.Slice.PartMut.{put_mid, post_of}

-- what is behind the room
pub behind_room : (room out body : List ℕ) (n : ℕ) → length room ≡ n → out ≡ room ++ body → drop n out ≡ body
behind_room room out body n size is = ap (drop n) is ∙ drop_at room body n size

-- what begins where a head was written right before a place
pub put_there : (text head part : List ℕ) (place : ℕ) → length head ≤ place → place ≤ length text → part ≡ head
    → drop (place - length head) (put_mid (place - length head) (place - (place - length head)) text part) ≡ head ++ drop place text
put_there text head part place room within is =
    let start = place - length head in
    let size = place - start in
    let front : length (take start text) ≡ start = length-take-le start text (omega arith) in
    drop_at (take start text) (part ++ post_of start size text) start front
    ∙ ap (λ t. t ++ post_of start size text) is
    ∙ ap (λ t. head ++ t) (drop-drop size start text ∙ ap (λ n. drop n text) (omega arith))
