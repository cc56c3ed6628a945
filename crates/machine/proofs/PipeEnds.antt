-- Pipes and their ends where the descriptors of a slot change.
use Rattle.std.proofs.Common.{◌≡◌, ◌∙◌, sym, refl, ℕ, zero, suc, ◌+◌, ◌<◌, nat_eq, get_or, Option, List, [], ◌∷◌, length, cond, true, false, Bool, slice_set, subst, arith, eq-eqb}
use Rattle.std.proofs.lemmas.Bool.{and_parts, eqb-true}
use Rattle.std.proofs.lemmas.List.Elements.{All-nil}
use Rattle.machine.specs.declared.process.Target.{Target}
use Rattle.machine.specs.Pipes.{Table, table_at, no_descriptors, reads, writes, ends_in, ends_of, is_unused, swept_from, swept}
use Rattle.machine.specs.Shape.{IsPipe, ArePipes}

-- how many ends there are, where the descriptors of a slot are written
ends-written : (names : Option Target → Bool) (tables : List Table) (slot : ℕ) (table : Table) → slot < length tables
    → ends_of names (slice_set tables slot table) + ends_in names (table_at tables slot) ≡ ends_of names tables + ends_in names table
ends-written names [] slot table within = absurd (omega arith)
ends-written names (t ∷ tables) zero table within = omega arith
ends-written names (t ∷ tables) (suc slot) table within = let rest = ends-written names tables slot table (omega arith) in omega arith

-- Ends don't get fewer where a slot had none.
ends-given : (names : Option Target → Bool) (tables : List Table) (slot : ℕ) (table : Table) → slot < length tables → ends_in names (table_at tables slot) ≡ 0
    → ends_of names (slice_set tables slot table) ≡ 0 → ends_of names tables ≡ 0
ends-given names tables slot table within none now = let all = ends-written names tables slot table within in omega arith

-- A pipe is unused where neither kind of end is there.
unused-parts : (tables : List Table) (k : ℕ) → is_unused tables k ≡ true → (ends_of (reads k) tables ≡ 0) × (ends_of (writes k) tables ≡ 0)
unused-parts tables k h =
    let parts = and_parts (nat_eq (ends_of (reads k) tables) 0) (nat_eq (ends_of (writes k) tables) 0) h in
    (eqb-true (ends_of (reads k) tables) 0 parts.0, eqb-true (ends_of (writes k) tables) 0 parts.1)

-- and it is unused where both numbers are 0
unused-from : (tables : List Table) (k : ℕ) → ends_of (reads k) tables ≡ 0 → ends_of (writes k) tables ≡ 0 → is_unused tables k ≡ true
unused-from tables k r w = rw (eq-eqb (ends_of (reads k) tables) 0 r, eq-eqb (ends_of (writes k) tables) 0 w) refl

-- A pipe that is unused after a slot without descriptors was given some was unused before.
given-unused : (tables : List Table) (slot k : ℕ) (table : Table) → slot < length tables → table_at tables slot ≡ no_descriptors
    → is_unused (slice_set tables slot table) k ≡ true → is_unused tables k ≡ true
given-unused tables slot k table within none h =
    let parts = unused-parts (slice_set tables slot table) k h in
    unused-from tables k (ends-given (reads k) tables slot table within (rw none refl) parts.0) (ends-given (writes k) tables slot table within (rw none refl) parts.1)

-- So pipes are right where a slot without descriptors is given some.
pub given-pipes : (tables : List Table) (slot : ℕ) (table : Table) (pipes : List (List ℕ)) → slot < length tables → table_at tables slot ≡ no_descriptors
    → ArePipes tables pipes → ArePipes (slice_set tables slot table) pipes
given-pipes tables slot table pipes within none are = record {
  count = are.count;
  each = λ k low. let is = are.each k low in record { fits = is.fits; bytes_are = is.bytes_are; free = λ h. is.free (given-unused tables slot k table within none h) };
}

-- an empty list in both cases
none : (b : Bool) → let empty : List ℕ = [] in empty ≡ cond b [] []
none true = refl
none false = refl

-- a swept pipe is empty where it is unused, and else as it was
swept-at : (tables : List Table) (first : ℕ) (pipes : List (List ℕ)) (k : ℕ) → get_or (swept_from tables first pipes) k [] ≡ cond (is_unused tables (first + k)) [] (get_or pipes k [])
swept-at tables first [] k = none (is_unused tables (first + k))
swept-at tables first (bytes ∷ pipes) zero =
    subst (λ (i : ℕ). cond (is_unused tables first) [] bytes ≡ cond (is_unused tables i) [] bytes) (let e : first ≡ first + 0 = omega arith in e) refl
swept-at tables first (bytes ∷ pipes) (suc k) =
    subst (λ (i : ℕ). get_or (swept_from tables (first + 1) pipes) k [] ≡ cond (is_unused tables i) [] (get_or pipes k [])) (let e : (first + 1) + k ≡ first + suc k = omega arith in e)
    (swept-at tables (first + 1) pipes k)

-- there are as many pipes after a sweep
swept-length : (tables : List Table) (first : ℕ) (pipes : List (List ℕ)) → length (swept_from tables first pipes) ≡ length pipes
swept-length tables first [] = refl
swept-length tables first (bytes ∷ pipes) = let rest = swept-length tables (first + 1) pipes in omega arith

-- Pipes are right for any descriptors by which they are swept.
swept-pipe : (old tables : List Table) (k : ℕ) (bytes : List ℕ) (b : Bool) → is_unused tables k ≡ b → IsPipe old k bytes → IsPipe tables k (cond b [] bytes)
swept-pipe old tables k bytes true h is = record { fits = omega arith; bytes_are = All-nil (λ byte. byte < 256); free = λ _. refl }
swept-pipe old tables k bytes false h is = record { fits = is.fits; bytes_are = is.bytes_are; free = λ t. absurd (cc) }

-- so for all pipes
pub swept-pipes : (old tables : List Table) (pipes : List (List ℕ)) → ArePipes old pipes → ArePipes tables (swept tables pipes)
unfolding swept
swept-pipes old tables pipes are = record {
  count = swept-length tables 0 pipes ∙ are.count;
  each = λ k low. subst (IsPipe tables k) (sym (at k)) (swept-pipe old tables k (get_or pipes k []) (is_unused tables k) refl (are.each k low));
}
  where
    at : (k : ℕ) → get_or (swept_from tables 0 pipes) k [] ≡ cond (is_unused tables k) [] (get_or pipes k [])
    at k = subst (λ (i : ℕ). get_or (swept_from tables 0 pipes) k [] ≡ cond (is_unused tables i) [] (get_or pipes k [])) (let e : 0 + k ≡ k = omega arith in e) (swept-at tables 0 pipes k)
