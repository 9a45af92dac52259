-- The book's lines after an accepted batch give the trees of the outcome. Assumes nothing.
use mathlib.Core.Bool.{Bool, true, false, not, ◌||◌, false≢true}
use mathlib.Core.List.{List, [], ◌∷◌, ◌++◌, map}
use mathlib.Core.Path.{◌≡◌, refl, sym, ap, ◌∙◌, subst}
use Prim.Native.Nat.{ℕ, zero, suc, ◌+◌, ◌<◌}
use native.Mathlib.Omega.{arith}
use native.Mathlib.Nat.{add-zero, add-suc, suc-add, zero-add}
use lib.Dec.{eqb}
use lib.ListN.{length}
use borrow.Author.Tests.{eqb-true}
use Rattle.std.specs.Prelude.{if◌then◌else◌, Option, None, Some}
use Rattle.base.specs.Tests.{◌and◌, is_some, has, position}
use Rattle.base.proofs.Tests.{both, joined}
use Rattle.ids.specs.Ids.{same_tree, same_index}
use Rattle.ids.specs.declared.TreeId.{TreeId}
use Rattle.ids.specs.declared.NodeId.{NodeId}
use Rattle.ids.specs.declared.FullNodeId.{FullNodeId}
use Rattle.record.specs.Batch.{Batch}
use Rattle.state.specs.State.{NodeState, Subtree, TreeEntry, Forest, subtree_state, subtree_from, subtree_of}
use Rattle.state.specs.declared.SubtreeState.{SubtreeState}
use Rattle.state.specs.Sound.{grafted, all_grafted}
use Rattle.state.proofs.State.{present_has}
use Rattle.update.specs.Words.{known, tree_number}
use Rattle.update.specs.Gone.{gone}
use Rattle.update.specs.Outcome.{written, subtree_here, subtree_elsewhere, entry_after, entries_after, new_entry, outcome}
use Rattle.update.proofs.Outcome.{has_elsewhere, present_outcome}
use Rattle.update.proofs.Sound.{length_entries_after}
use Rattle.book.specs.Book.{Entry, Line, line_after, lines_after, number_in, new_line, is_entered, tree_of_line, trees_of_lines, entry_of_node}
use Rattle.book.proofs.Nodes.{entered_present}

-- ## Lists of lines

-- the book gives the numbers that the state gives
ids_trees_of_lines : (ks : List Entry) (i : ℕ) (ls : List Line) → map (λ e. e.id) (trees_of_lines ks i ls) ≡ map (λ l. l.id) ls
unfolding trees_of_lines tree_of_line
ids_trees_of_lines ks i [] = refl
ids_trees_of_lines ks i (l ∷ ls) = ap {B = List TreeId} (λ ts. l.id ∷ ts) (ids_trees_of_lines ks (suc i) ls)

length_trees_of_lines : (ks : List Entry) (i : ℕ) (ls : List Line) → length (trees_of_lines ks i ls) ≡ length ls
unfolding trees_of_lines
length_trees_of_lines ks i [] = refl
length_trees_of_lines ks i (l ∷ ls) = ap suc (length_trees_of_lines ks (suc i) ls)

trees_of_lines_append : (ks : List Entry) (i : ℕ) (ls ms : List Line) → trees_of_lines ks i (ls ++ ms) ≡ trees_of_lines ks i ls ++ trees_of_lines ks (i + length ls) ms
unfolding trees_of_lines
trees_of_lines_append ks i [] ms = rw add-zero refl
trees_of_lines_append ks i (l ∷ ls) ms =
    rw add-suc (ap {B = List TreeEntry} (λ es. tree_of_line ks i l ∷ es) (rw suc-add at (trees_of_lines_append ks (suc i) ls ms)))

length_lines_after : (b : Batch) (t i : ℕ) (ls : List Line) → length (lines_after b t i ls) ≡ length ls
unfolding lines_after
length_lines_after b t i [] = refl
length_lines_after b t i (l ∷ ls) = ap suc (length_lines_after b t (suc i) ls)

all_grafted_append : (ns : List NodeState) (i : ℕ) (es fs : List TreeEntry) → all_grafted ns i (es ++ fs) ≡ true
    → (all_grafted ns i es ≡ true) × (all_grafted ns (i + length es) fs ≡ true)
unfolding all_grafted
all_grafted_append ns i [] fs e = (refl, rw add-zero e)
all_grafted_append ns i (t ∷ es) fs e =
    let z = all_grafted_append ns (suc i) es fs (both e).1 in
    (joined (both e).0 z.0, rw add-suc (rw suc-add at z.1))

-- ## The line of the batch's tree, which exists if the batch has no tree data

-- each entry with the number t exists
abbrev Exists : ℕ → ℕ → List TreeEntry → Type 0
Exists t i [] = Unit {0}
Exists t i (e ∷ es) = (eqb i t ≡ true → is_some e.subtree ≡ true) × Exists t (suc i) es

exists_past : (t i : ℕ) (es : List TreeEntry) → t < i → Exists t i es
exists_past t i [] h = tt
exists_past t i (e ∷ es) h = ((λ q. absurd (omega (arith, eqb-true i t q))), exists_past t (suc i) es (omega arith))

exists_from : (id : TreeId) (t i k : ℕ) (es : List TreeEntry) → t ≡ i + position same_tree (map (λ e. e.id) es) id → is_some (subtree_from k es id) ≡ true
    → Exists t i es
unfolding subtree_from
exists_from id t i k [] h e = tt
exists_from id t i k (u ∷ es) h e = go (same_tree id u.id) h e (exists_from id t (suc i) (suc k) es)
  where
    there : (o : Option Subtree) → is_some {A = SubtreeState} (elim o as (λ _. Option SubtreeState) [ None ↦ None | Some p ↦ Some (subtree_state k p) ]) ≡ true
        → is_some o ≡ true
    there None q = q
    there (Some p) q = refl

    go : (c : Bool) → t ≡ i + (if c then zero else suc (position same_tree (map (λ e. e.id) es) id))
        → is_some {A = SubtreeState}
        (if c then elim u.subtree as (λ _. Option SubtreeState) [ None ↦ None | Some p ↦ Some (subtree_state k p) ] else subtree_from (suc k) es id) ≡ true
        → (t ≡ suc i + position same_tree (map (λ e. e.id) es) id → is_some (subtree_from (suc k) es id) ≡ true → Exists t (suc i) es)
        → Exists t i (u ∷ es)
    go true q f r = ((λ _. there u.subtree f), exists_past t (suc i) es (omega arith))
    go false q f r = ((λ z. absurd (omega (arith, eqb-true i t z))), r (omega arith) f)

-- a tree that exists has a number
has_number : (id : TreeId) (k : ℕ) (es : List TreeEntry) → is_some (subtree_from k es id) ≡ true → has same_tree (map (λ e. e.id) es) id ≡ true
unfolding subtree_from
has_number id k [] e = e
has_number id k (u ∷ es) e = go (same_tree id u.id) e (has_number id (suc k) es)
  where
    go : (c : Bool)
        → is_some {A = SubtreeState}
        (if c then elim u.subtree as (λ _. Option SubtreeState) [ None ↦ None | Some p ↦ Some (subtree_state k p) ] else subtree_from (suc k) es id) ≡ true
        → (is_some (subtree_from (suc k) es id) ≡ true → has same_tree (map (λ e. e.id) es) id ≡ true)
        → (c || has same_tree (map (λ e. e.id) es) id) ≡ true
    go true f r = refl
    go false f r = r f

-- ## One line

module _ (s : Forest) (b : Batch) where
  -- in another tree nothing comes
  elsewhere : (x : FullNodeId) → same_index x.tree (tree_number s b) ≡ false
      → is_entered (map entry_of_node (outcome s b).nodes) x ≡ (is_entered (map entry_of_node s.nodes) x and not (gone s b x))
  unfolding written
  elsewhere x e =
      entered_present (outcome s b).nodes x
      ∙ present_outcome s b x
      ∙ ap (λ (c : Bool). c and not (gone s b x))
      (has_elsewhere (tree_number s b) b.nodes s.nodes x e ∙ sym (present_has s.nodes x) ∙ sym (entered_present s.nodes x))

  -- another tree stays while its root is entered
  subtree_other : (i : ℕ) (focus : NodeId) → eqb i (tree_number s b).0 ≡ false → (o : Option NodeId)
      → subtree_elsewhere s b i (tree_of_line (map entry_of_node s.nodes) i (record { id = b.tree; root = o; focus = focus })).subtree
      ≡ (tree_of_line (map entry_of_node (outcome s b).nodes) i (record { id = b.tree; root = o; focus = focus })).subtree
  unfolding tree_of_line subtree_elsewhere same_index ◌and◌
  subtree_other i focus q None = refl
  subtree_other i focus q (Some r) =
      keeps (is_entered (map entry_of_node s.nodes) x)
      ∙ ap {B = Option Subtree} (λ c. if c then Some u else None) (sym (elsewhere x q))
    where
      x : FullNodeId
      x = record { tree = record { 0 = i }; node = r }

      u : Subtree
      u = record { root = r; focus = focus }

      flips : (g : Bool) → ◌≡◌ {A = Option Subtree} (if g then None else Some u) (if not g then Some u else None)
      flips true = refl
      flips false = refl

      keeps : (d : Bool) → ◌≡◌ {A = Option Subtree} (subtree_elsewhere s b i (if d then Some u else None)) (if d and not (gone s b x) then Some u else None)
      keeps true = flips (gone s b x)
      keeps false = refl

  line_other : (i : ℕ) (l : Line) → eqb i (tree_number s b).0 ≡ false
      → entry_after s b i (tree_of_line (map entry_of_node s.nodes) i l) ≡ tree_of_line (map entry_of_node (outcome s b).nodes) i (line_after b (tree_number s b).0 i l)
  unfolding entry_after line_after tree_of_line
  line_other i l q =
      ap {B = TreeEntry} (λ c. record { id = l.id; subtree = if c then subtree_here s b o else subtree_elsewhere s b i o }) q
      ∙ ap {B = TreeEntry} (λ p. record { id = l.id; subtree = p }) (subtree_other i l.focus q l.root)
      ∙ ap (λ (m : Line). tree_of_line (map entry_of_node (outcome s b).nodes) i m) (sym (ap {B = Line} (λ c. if c then own else l) q))
    where
      o : Option Subtree
      o = (tree_of_line (map entry_of_node s.nodes) i l).subtree

      own : Line
      own = record { id = l.id; root = elim b.root [ Some r ↦ Some r | None ↦ l.root ]; focus = b.focus }

  -- the batch's tree has a root that is present in the outcome, so it is entered
  root_entered : (i : ℕ) (id : TreeId) (r : NodeId) → grafted (outcome s b).nodes i (record { id = id; subtree = Some (record { root = r; focus = b.focus }) }) ≡ true
      → Some (record { root = r; focus = b.focus })
      ≡ (tree_of_line (map entry_of_node (outcome s b).nodes) i (record { id = id; root = Some r; focus = b.focus })).subtree
  unfolding tree_of_line grafted
  root_entered i id r e =
      ap {B = Option Subtree} (λ c. if c then Some (record { root = r; focus = b.focus }) else None)
      (sym (entered_present (outcome s b).nodes (record { tree = record { 0 = i }; node = r }) ∙ (both e).0))

  abbrev root_now : Option NodeId → Option NodeId → Option NodeId
  root_now now was = elim now [ Some r ↦ Some r | None ↦ was ]

  abbrev subtree_now : Option NodeId → Option Subtree → Option Subtree
  subtree_now now was =
      elim now [
        | Some r ↦ Some (record { root = r; focus = b.focus })
        | None ↦ elim was [ None ↦ None | Some u ↦ Some (record { root = u.root; focus = b.focus }) ]
      ]

  subtree_own : (i : ℕ) (l : Line) (now was : Option NodeId)
      → (now ≡ None → is_some (tree_of_line (map entry_of_node s.nodes) i (record { id = l.id; root = was; focus = l.focus })).subtree ≡ true)
      → grafted (outcome s b).nodes i
      (record { id = l.id; subtree = subtree_now now (tree_of_line (map entry_of_node s.nodes) i (record { id = l.id; root = was; focus = l.focus })).subtree }) ≡ true
      → subtree_now now (tree_of_line (map entry_of_node s.nodes) i (record { id = l.id; root = was; focus = l.focus })).subtree
      ≡ (tree_of_line (map entry_of_node (outcome s b).nodes) i (record { id = l.id; root = root_now now was; focus = b.focus })).subtree
  unfolding tree_of_line
  subtree_own i l (Some r) was h e = root_entered i l.id r e
  subtree_own i l None None h e = absurd (false≢true (h refl))
  subtree_own i l None (Some r) h e = go (is_entered (map entry_of_node s.nodes) (record { tree = record { 0 = i }; node = r })) (h refl) e
    where
      go : (c : Bool) → is_some {A = Subtree} (if c then Some (record { root = r; focus = l.focus }) else None) ≡ true
          → grafted (outcome s b).nodes i (record { id = l.id; subtree = subtree_now None (if c then Some (record { root = r; focus = l.focus }) else None) }) ≡ true
          → subtree_now None (if c then Some (record { root = r; focus = l.focus }) else None)
          ≡ (tree_of_line (map entry_of_node (outcome s b).nodes) i (record { id = l.id; root = Some r; focus = b.focus })).subtree
      go true f g = root_entered i l.id r g
      go false f g = absurd (false≢true f)

  line_own : (i : ℕ) (l : Line) → eqb i (tree_number s b).0 ≡ true
      → (b.root ≡ None → is_some (tree_of_line (map entry_of_node s.nodes) i l).subtree ≡ true)
      → grafted (outcome s b).nodes i (entry_after s b i (tree_of_line (map entry_of_node s.nodes) i l)) ≡ true
      → entry_after s b i (tree_of_line (map entry_of_node s.nodes) i l) ≡ tree_of_line (map entry_of_node (outcome s b).nodes) i (line_after b (tree_number s b).0 i l)
  unfolding entry_after line_after tree_of_line subtree_here
  line_own i l q h e =
      settles
      ∙ ap {B = TreeEntry} (λ p. record { id = l.id; subtree = p })
      (subtree_own i l b.root l.root h (subst (λ (t : TreeEntry). grafted (outcome s b).nodes i t ≡ true) settles e))
      ∙ ap (λ (m : Line). tree_of_line (map entry_of_node (outcome s b).nodes) i m) (sym (ap {B = Line} (λ c. if c then own else l) q))
    where
      o : Option Subtree
      o = (tree_of_line (map entry_of_node s.nodes) i l).subtree

      own : Line
      own = record { id = l.id; root = root_now b.root l.root; focus = b.focus }

      settles : entry_after s b i (tree_of_line (map entry_of_node s.nodes) i l) ≡ record { id = l.id; subtree = subtree_here s b o }
      settles = ap {B = TreeEntry} (λ c. record { id = l.id; subtree = if c then subtree_here s b o else subtree_elsewhere s b i o }) q

  -- ## All lines

  lines : (i : ℕ) (ls : List Line)
      → (b.root ≡ None → Exists (tree_number s b).0 i (trees_of_lines (map entry_of_node s.nodes) i ls))
      → all_grafted (outcome s b).nodes i (entries_after s b i (trees_of_lines (map entry_of_node s.nodes) i ls)) ≡ true
      → entries_after s b i (trees_of_lines (map entry_of_node s.nodes) i ls) ≡ trees_of_lines (map entry_of_node (outcome s b).nodes) i (lines_after b (tree_number s b).0 i ls)
  unfolding entries_after trees_of_lines lines_after all_grafted
  lines i [] h e = refl
  lines i (l ∷ ls) h e = join (go (eqb i (tree_number s b).0) refl) (lines (suc i) ls (λ z. (h z).1) (both e).1)
    where
      join : {t u : TreeEntry} {ts us : List TreeEntry} → t ≡ u → ts ≡ us → ◌≡◌ {A = List TreeEntry} (t ∷ ts) (u ∷ us)
      join p q = λ j. p j ∷ q j

      go : (c : Bool) → eqb i (tree_number s b).0 ≡ c
          → entry_after s b i (tree_of_line (map entry_of_node s.nodes) i l) ≡ tree_of_line (map entry_of_node (outcome s b).nodes) i (line_after b (tree_number s b).0 i l)
      go true q = line_own i l q (λ z. (h z).0 q) (both e).0
      go false q = line_other i l q

  -- the numbers that the state gives are those that the book gives
  same_ids : (ls : List Line) → s.trees ≡ trees_of_lines (map entry_of_node s.nodes) 0 ls → map (λ e. e.id) s.trees ≡ map (λ l. l.id) ls
  same_ids ls p = ap (map (λ (e : TreeEntry). e.id)) p ∙ ids_trees_of_lines (map entry_of_node s.nodes) 0 ls

  pub same_number : (ls : List Line) → s.trees ≡ trees_of_lines (map entry_of_node s.nodes) 0 ls → (tree_number s b).0 ≡ number_in b ls
  unfolding tree_number number_in
  same_number ls p = ap (λ (ts : List TreeId). position same_tree ts b.tree) (same_ids ls p)

  -- the line that a new tree gets
  new_line_lem : (i : ℕ) (c : Bool) → (b.root ≡ None → c ≡ true)
      → all_grafted (outcome s b).nodes i (if c then [] else record { id = b.tree; subtree = subtree_here s b None } ∷ []) ≡ true
      → (if c then [] else record { id = b.tree; subtree = subtree_here s b None } ∷ [])
      ≡ trees_of_lines (map entry_of_node (outcome s b).nodes) i (if c then [] else record { id = b.tree; root = b.root; focus = b.focus } ∷ [])
  unfolding trees_of_lines tree_of_line all_grafted subtree_here
  new_line_lem i true h e = refl
  new_line_lem i false h e = ap {B = List TreeEntry} (λ p. p ∷ []) (go b.root h (both e).0)
    where
      go : (now : Option NodeId) → (now ≡ None → false ≡ true)
          → grafted (outcome s b).nodes i (record { id = b.tree; subtree = subtree_now now None }) ≡ true
          → record { id = b.tree; subtree = subtree_now now None }
          ≡ tree_of_line (map entry_of_node (outcome s b).nodes) i (record { id = b.tree; root = now; focus = b.focus })
      go None f g = absurd (false≢true (f refl))
      go (Some r) f g = ap {B = TreeEntry} (λ p. record { id = b.tree; subtree = p }) (root_entered i b.tree r g)

  pub trees_after : (ls : List Line) → s.trees ≡ trees_of_lines (map entry_of_node s.nodes) 0 ls
      → all_grafted (outcome s b).nodes 0 (outcome s b).trees ≡ true
      → (b.root ≡ None → is_some (subtree_of s b.tree) ≡ true)
      → (outcome s b).trees ≡ trees_of_lines (map entry_of_node (outcome s b).nodes) 0 (lines_after b (tree_number s b).0 0 ls ++ new_line b ls)
  unfolding outcome new_entry new_line known subtree_of tree_number
  trees_after ls p e h =
      ap (λ (es : List TreeEntry). es ++ new_entry s b)
      (ap (entries_after s b 0) p ∙ lines 0 ls exists (subst (λ (es : List TreeEntry). all_grafted (outcome s b).nodes 0 (entries_after s b 0 es) ≡ true) p parts.0))
      ∙ ap (λ (es : List TreeEntry). trees_of_lines (map entry_of_node (outcome s b).nodes) 0 noted ++ es) last
      ∙ sym (trees_of_lines_append (map entry_of_node (outcome s b).nodes) 0 noted (new_line b ls))
    where
      noted : List Line
      noted = lines_after b (tree_number s b).0 0 ls

      parts : (all_grafted (outcome s b).nodes 0 (entries_after s b 0 s.trees) ≡ true)
          × (all_grafted (outcome s b).nodes (0 + length (entries_after s b 0 s.trees)) (new_entry s b) ≡ true)
      parts = all_grafted_append (outcome s b).nodes 0 (entries_after s b 0 s.trees) (new_entry s b) e

      exists : b.root ≡ None → Exists (tree_number s b).0 0 (trees_of_lines (map entry_of_node s.nodes) 0 ls)
      exists z =
          subst (λ (es : List TreeEntry). Exists (tree_number s b).0 0 es) p
          (exists_from b.tree (tree_number s b).0 0 0 s.trees (sym (zero-add (tree_number s b).0)) (h z))

      places : 0 + length (entries_after s b 0 s.trees) ≡ 0 + length noted
      places = ap (λ (n : ℕ). 0 + n)
          (length_entries_after s b 0 s.trees
          ∙ ap (λ (es : List TreeEntry). length es) p
          ∙ length_trees_of_lines (map entry_of_node s.nodes) 0 ls
          ∙ sym (length_lines_after b (tree_number s b).0 0 ls))

      last : new_entry s b ≡ trees_of_lines (map entry_of_node (outcome s b).nodes) (0 + length noted) (new_line b ls)
      last =
          new_line_lem (0 + length noted) (known s b) (λ z. has_number b.tree 0 s.trees (h z))
          (subst (λ (i : ℕ). all_grafted (outcome s b).nodes i (new_entry s b) ≡ true) places parts.1)
          ∙ ap (λ (c : Bool). trees_of_lines (map entry_of_node (outcome s b).nodes) (0 + length noted)
          (if c then [] else record { id = b.tree; root = b.root; focus = b.focus } ∷ []))
          (ap (λ (ts : List TreeId). has same_tree ts b.tree) (same_ids ls p))
