-- Lists of ids in a slice: their words, and one id more. Assumes nothing.
use mathlib.Core.List.{List, [], ◌∷◌, ◌++◌}
use mathlib.Core.Path.{◌≡◌, refl, sym, ap, ap₂, ◌∙◌}
use Prim.Native.Nat.{ℕ, suc, ◌+◌, ◌*◌, ◌≤◌}
use native.Mathlib.Omega.{arith}
use lib.ListN.{length, set, drop, length-append, length-drop}
use lib.Seq.{take-append_seam, drop-append-add, drop-drop, sets-eq}
use Rattle.ids.specs.Ids.{id_words}
use Rattle.ids.specs.declared.FullNodeId.{FullNodeId}
use Rattle.ids.proofs.Ids.{id_words_length, id_words_append}
use Rattle.questions.specs.Answers.{written}

-- ## A list in a slice

pub ids_none : (slice : List ℕ) → written (id_words []) slice ≡ slice
unfolding written id_words
ids_none slice = refl

pub ids_length : (words slice : List ℕ) → length words ≤ length slice → length (written words slice) ≡ length slice
unfolding written
ids_length words slice h = omega (arith, length-append words (drop (length words) slice), length-drop (length words) slice)

-- one id more
pub ids_more : (xs : List FullNodeId) (x : FullNodeId) (slice : List ℕ) (k : ℕ) → k ≡ length xs → 2 * k + 2 ≤ length slice
    → set (set (written (id_words xs) slice) (2 * k) x.tree.0) (2 * k + 1) x.node.0 ≡ written (id_words (xs ++ x ∷ [])) slice
unfolding written id_words
ids_more xs x slice k e h =
    let w = id_words xs in
    let two : List ℕ = x.tree.0 ∷ x.node.0 ∷ [] in
    let here : 2 * k ≡ length w = omega (arith, id_words_length xs) in
    let next : 2 * k + 1 ≡ suc (length w) = omega (arith, id_words_length xs) in
    let room : length w + 2 ≤ length (w ++ drop (length w) slice) = omega (arith, id_words_length xs, length-append w (drop (length w) slice), length-drop (length w) slice) in
    let all : length w + 2 ≡ length (id_words (xs ++ x ∷ [])) = omega (arith, ap length (id_words_append xs (x ∷ [])), length-append w two) in
    ap₂ (λ (i j : ℕ). set (set (w ++ drop (length w) slice) i x.tree.0) j x.node.0) here next
    ∙ sets-eq two (w ++ drop (length w) slice) (length w) room
    ∙ ap₂ (λ (p q : List ℕ). p ++ two ++ q) (take-append_seam w (drop (length w) slice)) (drop-append-add w (drop (length w) slice) 2 ∙ drop-drop 2 (length w) slice)
    ∙ ap₂ (λ (p : List ℕ) (n : ℕ). p ++ drop n slice) (sym (id_words_append xs (x ∷ []))) all
