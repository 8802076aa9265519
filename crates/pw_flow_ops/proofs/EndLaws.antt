-- Ends of blocks: what is read is spelled so and lawful, and what is spelled so and lawful is read again.
use Rattle.std.proofs.Common.{◌≡◌, ℕ, ◌^◌, ◌<◌, ◌≤◌, List, [], ◌++◌, Ok, refl, arith}
use Rattle.pw_fields.specs.Fields.{u8, u32}
use Rattle.pw_fields.specs.FieldLaws.{Spells}
use Rattle.pw_flow.specs.declared.flow.End.{End}
use Rattle.pw_flow.specs.declared.flow.End.TheVariants as end
use Rattle.pw_flow.specs.ValidFlow.{IsResult, IsEnd}
use Rattle.pw_flow_ops.specs.declared.codes.EndCode.{EndCode}
use Rattle.pw_flow_ops.specs.declared.codes.EndCode.TheVariants as end_code
use Rattle.pw_flow_ops.specs.Operations.{result, end_number, ending, end_codes}
use Rattle.pw_flow_ops.specs.Reading.{one_of_at, below_at, result_at, targets_at, end_at}
use Rattle.pw_flow_ops.proofs.FieldChains.{Takes, takes_field, takes_done, again_field, chained}
use Rattle.pw_flow_ops.proofs.ChoiceLaws.{Any, end_code_spells}
use Rattle.pw_flow_ops.proofs.PartLaws.{below_spells, result_spells}

targets_take : (temps blocks : ℕ) → temps < 2 ^ 31 → blocks ≤ 2 ^ 32 → (c : EndCode) → Takes (λ text rest e. (u8 (end_number c) ++ text ≡ ending e) × IsEnd temps blocks e) (targets_at temps blocks c)
unfolding targets_at
targets_take temps blocks small few end_code.Jump =
    takes_field _ u32 (λ n. n < blocks) (below_at blocks) _ (below_spells blocks few) (λ b h. takes_done _ (end.Jump b) (λ rest. (refl, h)))
targets_take temps blocks small few end_code.Branch =
    takes_field _ u32 (λ n. n < temps) (below_at temps) _ (below_spells temps (omega arith))
    (λ a h. takes_field _ u32 (λ n. n < blocks) (below_at blocks) _ (below_spells blocks few)
    (λ b i. takes_field _ u32 (λ n. n < blocks) (below_at blocks) _ (below_spells blocks few) (λ c j. takes_done _ (end.Branch a b c) (λ rest. (refl, (h, i, j))))))
targets_take temps blocks small few end_code.Return =
    takes_field _ result (IsResult temps) (result_at temps) _ (result_spells temps small) (λ a h. takes_done _ (end.Return a) (λ rest. (refl, h)))

end_again : (temps blocks : ℕ) → temps < 2 ^ 31 → blocks ≤ 2 ^ 32 → (e : End) (rest : List ℕ) → IsEnd temps blocks e → end_at temps blocks (ending e ++ rest) ≡ Ok (e, rest)
unfolding end_at targets_at
end_again temps blocks small few (end.Jump b) rest h =
    again_field (λ c. u8 (end_number c)) Any (one_of_at end_codes) _ end_code_spells end_code.Jump tt (u32 b ++ []) rest (end.Jump b)
    (again_field u32 (λ n. n < blocks) (below_at blocks) _ (below_spells blocks few) b h [] rest (end.Jump b) refl)
end_again temps blocks small few (end.Branch a b c) rest h =
    again_field (λ c. u8 (end_number c)) Any (one_of_at end_codes) _ end_code_spells end_code.Branch tt (u32 a ++ (u32 b ++ (u32 c ++ []))) rest (end.Branch a b c)
    (again_field u32 (λ n. n < temps) (below_at temps) _ (below_spells temps (omega arith)) a h.0 (u32 b ++ (u32 c ++ [])) rest (end.Branch a b c)
    (again_field u32 (λ n. n < blocks) (below_at blocks) _ (below_spells blocks few) b h.1 (u32 c ++ []) rest (end.Branch a b c)
    (again_field u32 (λ n. n < blocks) (below_at blocks) _ (below_spells blocks few) c h.2 [] rest (end.Branch a b c) refl)))
end_again temps blocks small few (end.Return a) rest h =
    again_field (λ c. u8 (end_number c)) Any (one_of_at end_codes) _ end_code_spells end_code.Return tt (result a ++ []) rest (end.Return a)
    (again_field result (IsResult temps) (result_at temps) _ (result_spells temps small) a h [] rest (end.Return a) refl)

pub end_spells : (temps blocks : ℕ) → temps < 2 ^ 31 → blocks ≤ 2 ^ 32 → Spells ending (IsEnd temps blocks) (end_at temps blocks)
unfolding end_at
end_spells temps blocks small few = chained ending (IsEnd temps blocks) _
    (takes_field _ (λ c. u8 (end_number c)) Any (one_of_at end_codes) _ end_code_spells (λ c h. targets_take temps blocks small few c))
    (end_again temps blocks small few)
