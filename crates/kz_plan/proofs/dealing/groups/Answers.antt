use Rattle.std.proofs.Common.{◌≡◌, ◌+◌, ◌-◌, ◌++◌, length, ap, sym, ◌∙◌, arith}
use Rattle.std.proofs.lemmas.List.{append-nil}
use Rattle.kz_model.specs.Types.Plan.{signatures}
use Rattle.kz_model.specs.Zone.Words.{words_after}
use Rattle.kz_plan.proofs.Groups.{groups_left, groups_left-all, groups_left-end, groups_left-skip, groups_left-next, shuffled_texts, shuffled_words}
use Rattle.kz_plan.proofs.Written.{pushed}
use Rattle.kz_plan.proofs.dealing.groups.Goals.{then-is_in_use+in_ok-order+in_ok-push, else-is_in_use}
use Rattle.kz_plan.proofs.dealing.groups.Goals as goal

pub loop-class-init : goal.loop-class-init
loop-class-init c =
    (0, c.new-words.ensures, ap (λ groups. groups ++ groups_left c.args.layouts.now c.args.seed 0 0) c.new-groups.ensures.items ∙ groups_left-all c.args.layouts.now c.args.seed)

pub loop-class-preserved : goal.loop-class-preserved
loop-class-preserved c =
    let l = c.loop-class in
    let layouts = c.args.layouts.now in
    let seed = c.args.seed in
    let drawn = l.invariant.0 in
    elim c.if-is_in_use.branch [
      | then-is_in_use+in_ok-order+in_ok-push w ↦
          let items = w.in_ok-order.order.items in
          let next = drawn + (length (signatures layouts l.class) - 1) in
          let start = w.deref_mut.result.now in
          let shown = shuffled_texts seed drawn w.in_ok-order.order.len items start w.shuffle.new.order (signatures layouts l.class) w.in_ok-order.ensures w.deref_mut.ensures.value (omega (arith, w.in_ok-order.order.ok.0))
          (w.shuffle.ensures.order seed drawn l.invariant.1) in
          let words : c.if-is_in_use.words ≡ words_after seed 0 next =
          w.words-is ∙ w.shuffle.ensures.words seed drawn l.invariant.1
          ∙ ap (words_after seed 0) (shuffled_words drawn items start (signatures layouts l.class) w.in_ok-order.ensures w.deref_mut.ensures.value) in (
            next,
            words,
            pushed l.groups.items c.if-is_in_use.groups.items (groups_left layouts seed next (l.class + 1)) _ _ (ap (λ groups. groups.items) w.groups-is ∙ w.in_ok-push.ensures.items)
                (ap (λ rest. l.groups.items ++ rest) (sym (groups_left-next layouts seed drawn l.class _ (omega arith) (sym c.is_in_use.ensures ∙ w.if-is_in_use.true) shown)) ∙ l.invariant.2),
          )
      | else-is_in_use w ↦ (
        drawn,
        w.words-is ∙ l.invariant.1,
        ap (λ groups. groups.items ++ groups_left layouts seed drawn (l.class + 1)) w.groups-is
            ∙ ap (λ rest. l.groups.items ++ rest) (sym (groups_left-skip layouts seed drawn l.class (omega arith) (sym c.is_in_use.ensures ∙ w.if-is_in_use.false)))
            ∙ l.invariant.2,
      )
    ]

pub returns : goal.returns
returns c =
    let l = c.loop-class in
    sym (append-nil l.groups.items)
    ∙ ap (λ rest. l.groups.items ++ rest) (sym (groups_left-end c.args.layouts.now c.args.seed l.invariant.0 l.class (omega arith)))
    ∙ l.invariant.2
