use Rattle.std.proofs.Common.{◌+◌, subst, sym, ap, ◌∙◌, arith, length-drop, List, map}
use Rattle.std.specs.List.{All}
use Rattle.std.proofs.lemmas.List.{take_rest}
use Rattle.kz_text.specs.declared.token.Token.{Token}
use Rattle.kz_text.specs.Tokens.{text_of}
use Rattle.kz_text.proofs.Spans.{more_tokens, last_token, texts_of_tokens, tokens_within, IsWithin}
use Rattle.kz_text.proofs.token.tokens.Goals as goal

pub loop-at-preserved : goal.loop-at-preserved
loop-at-preserved c =
    let h = c.loop-at.invariant in
    record {
      there = simp take_rest (omega (arith, length-drop (c.in-Some.at + 1) c.loop-at.rest.now, c.in-Some.ensures.some.within));
      so_far = more_tokens c.args.line.now.number c.loop-at.from c.in-Some.at _ c.loop-at.tokens.items _ _ c.token_of.result c.loop-at.rest.now _ c.in-Some.ensures.some (omega arith) (take_rest c.loop-at.rest.now (c.in-Some.at + 1)) c.token_of.ensures c.in_ok-push.ensures.items h.so_far;
    }

pub returns-clause-spans : goal.returns-clause-spans
returns-clause-spans c =
    last_token c.args.line.now.number c.loop-at.from c.loop-at.tokens.items _ _ c.token_of-2.result c.loop-at.rest.now c.in_default.ensures.none c.token_of-2.ensures c.in_ok-push-2.ensures.items c.loop-at.invariant.so_far

pub returns-clause-texts : goal.returns-clause-texts
returns-clause-texts c = ap (λ tokens. map (text_of c.args.line.now.text.now) tokens) (returns-clause-spans c) ∙ texts_of_tokens c.args.line.now.text.now c.args.line.now.number

pub returns-clause-within : goal.returns-clause-within
returns-clause-within c =
    let P : List Token → Type 0 = λ tokens. All (IsWithin c.args.line.now.text.now) tokens in
    subst P (sym (returns-clause-spans c)) (tokens_within c.args.line.now.text.now c.args.line.now.number)
