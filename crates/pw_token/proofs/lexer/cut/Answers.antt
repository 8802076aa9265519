use Rattle.std.proofs.Common.{◌≡◌, Vec, Global, vec_len, Some, drop, take, sym, ap, ◌∙◌}
use Rattle.std.proofs.lemmas.List.{take_rest}
use Rattle.std.proofs.lemmas.Result.{err_from_is_err_and}
use Rattle.pw_token.specs.declared.token.Token.{Token}
use Rattle.pw_token.specs.Pieces.{piece_at}
use Rattle.pw_token.specs.Tokenization.{line_start_after}
use Rattle.pw_token.proofs.LexLaws.{lexing-step, lexing-bad, gives-fault}
use Rattle.pw_token.proofs.lexer.cut.Goals as goal

pub returns-in_default : goal.returns-in_default
returns-in_default c =
    let here = c.piece_at.ensures.value ∙ ap (piece_at c.loop-at.line_start) (take_rest c.args.text.now c.loop-at.at) in
    lexing-bad c.args.text.now c.loop-at.at c.loop-at.line_start c.loop-at.tokens.items c.loop-at.invariant.0 c.loop-at-test.true c.loop-at.invariant.1
    (sym here ∙ c.in_default.is)

pub returns-in_err-keep : goal.returns-in_err-keep
returns-in_err-keep c =
    let here = c.piece_at.ensures.value ∙ ap (piece_at c.loop-at.line_start) (take_rest c.args.text.now c.loop-at.at) in
    let found : piece_at c.loop-at.line_start (drop c.loop-at.at c.args.text.now) ≡ Some (c.in-Some.kind, c.in-Some.len) = sym here ∙ c.in-Some.is in
    let p = err_from_is_err_and c.from_residual.result c.from_residual.ensures.1 in
    rw (p.1, p.2)
    (gives-fault (λ (tokens : Vec Token Global). tokens.items) c.args.text.now c.loop-at.at c.loop-at.line_start c.loop-at.tokens.items c.in-Some.kind c.in-Some.len
    (vec_len c.loop-at.tokens) c.in_err-keep.field-0.0 c.loop-at.invariant.0 c.loop-at-test.true c.loop-at.invariant.1 found (c.loop-at.tokens.ok.0) c.in_err-keep.ensures.fault)

pub loop-at-preserved : goal.loop-at-preserved
loop-at-preserved c =
    let text = c.args.text.now in
    let here = c.piece_at.ensures.value ∙ ap (piece_at c.loop-at.line_start) (take_rest text c.loop-at.at) in
    let found : piece_at c.loop-at.line_start (drop c.loop-at.at text) ≡ Some (c.in-Some.kind, c.in-Some.len) = sym here ∙ c.in-Some.is in (
      lexing-step text c.loop-at.at c.loop-at.line_start c.loop-at.tokens.items c.in-Some.kind c.in-Some.len c.keep.new.tokens.items c.line_start_after-line_start.result
          c.loop-at.invariant.0 c.loop-at-test.true found c.in_ok-keep.ensures.kept c.in_ok-keep.ensures.few
          (c.line_start_after-line_start.ensures ∙ ap (λ x. line_start_after c.loop-at.line_start c.in-Some.kind (take c.in-Some.len x)) (take_rest text c.loop-at.at)),
      c.loop-at.invariant.1,
    )
