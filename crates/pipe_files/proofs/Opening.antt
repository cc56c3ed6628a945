-- Where nothing is open.
use Rattle.std.proofs.Common.{◌≡◌, ◌∙◌, ap, refl, ℕ, ◌<◌, ◌⊎◌, inl, inr, None, List, [], get_or, length, replicate, arith}
use Rattle.std.proofs.lemmas.Bool.{cases_order}
use Rattle.std.proofs.lemmas.List.{length-replicate, get_or-replicate, get_or_past}
use Rattle.machine.specs.Numbers.{descriptor_count, pipe_count}
use Rattle.machine.specs.Pipes.{Table, no_descriptors, target, table_at}

-- of equal things each is that thing, and past the last one there is what stands where there is none
each-same : {A : Type 0} (n k : ℕ) (a d : A) → a ≡ d → get_or (replicate n a) k d ≡ d
each-same {A} n k a d same = by (cases_order k n)
  where
    long : length (replicate n a) ≡ n
    long = length-replicate n a

    by : (k ≡ n) ⊎ ((k < n) ⊎ (n < k)) → get_or (replicate n a) k d ≡ d
    by (inl e) = get_or_past (replicate n a) k d (omega (arith, long))
    by (inr (inl less)) = get_or-replicate n k a d less ∙ same
    by (inr (inr more)) = get_or_past (replicate n a) k d (omega (arith, long))

pub nothing-named : (slots slot fd : ℕ) → target (table_at (replicate slots no_descriptors) slot) fd ≡ None
nothing-named slots slot fd = by (cases_order slot slots)
  where
    long : length (replicate slots no_descriptors) ≡ slots
    long = length-replicate slots no_descriptors

    past : table_at (replicate slots no_descriptors) slot ≡ [] → target (table_at (replicate slots no_descriptors) slot) fd ≡ None
    past e = ap (λ (t : Table). target t fd) e

    by : (slot ≡ slots) ⊎ ((slot < slots) ⊎ (slots < slot)) → target (table_at (replicate slots no_descriptors) slot) fd ≡ None
    by (inl e) = past (get_or_past (replicate slots no_descriptors) slot [] (omega (arith, long)))
    by (inr (inl less)) = ap (λ (t : Table). target t fd) (get_or-replicate slots slot no_descriptors [] less) ∙ each-same descriptor_count fd None None refl
    by (inr (inr more)) = past (get_or_past (replicate slots no_descriptors) slot [] (omega (arith, long)))

pub nothing-held : (k : ℕ) → get_or (replicate {A = List ℕ} pipe_count []) k [] ≡ []
nothing-held k = each-same pipe_count k [] [] refl
