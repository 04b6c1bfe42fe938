use Rattle.std.proofs.Common.{◌∙◌, ap, refl, None}
use Rattle.std.specs.Option.{option_or}
use Rattle.cc_jsdoc.specs.declared.tag.Tag.TheVariants as tag
use Rattle.cc_jsdoc.proofs.CollectLemmas.{after, added, collected_more, collected_param}
use Rattle.cc_jsdoc.proofs.collect.add.Goals as goal

pub returns-in-Constructor : goal.returns-in-Constructor
unfolding after
returns-in-Constructor c tags h = collected_more tags c.args.collected.now _ tag.Constructor c.args.tag h c.in-Constructor.is refl refl refl

pub returns-in-Interface : goal.returns-in-Interface
unfolding after
returns-in-Interface c tags h = collected_more tags c.args.collected.now _ tag.Interface c.args.tag h c.in-Interface.is refl refl refl

pub returns-in-Enum : goal.returns-in-Enum
unfolding after
returns-in-Enum c tags h = collected_more tags c.args.collected.now _ (tag.Enum c.in-Enum.expr) c.args.tag h c.in-Enum.is refl refl refl

pub returns-in-Typedef : goal.returns-in-Typedef
unfolding after
returns-in-Typedef c tags h = collected_more tags c.args.collected.now _ (tag.Typedef c.in-Typedef.expr) c.args.tag h c.in-Typedef.is refl refl refl

pub returns-in-Extends : goal.returns-in-Extends
unfolding after
returns-in-Extends c tags h = collected_more tags c.args.collected.now _ (tag.Extends c.in-Extends.name) c.args.tag h c.in-Extends.is refl refl refl

pub returns-in-Return : goal.returns-in-Return
unfolding after
returns-in-Return c tags h = collected_more tags c.args.collected.now _ (tag.Return c.in-Return.expr) c.args.tag h c.in-Return.is refl refl refl

pub returns-in-Type : goal.returns-in-Type
unfolding after
returns-in-Type c tags h = collected_more tags c.args.collected.now _ (tag.Type c.in-Type.expr) c.args.tag h c.in-Type.is refl refl refl

pub returns-in-This : goal.returns-in-This
unfolding after
returns-in-This c tags h = collected_more tags c.args.collected.now _ (tag.This c.in-This.expr) c.args.tag h c.in-This.is refl refl refl

pub returns-in-Const : goal.returns-in-Const
unfolding after
returns-in-Const c tags h =
    let d = c.args.collected.now.doc in
    collected_more tags c.args.collected.now _ (tag.Const c.in-Const.expr) c.args.tag h c.in-Const.is refl (ap (λ v. after (record d { value = v }) (tag.Const None)) (c.or.ensures ∙ ap (option_or c.in-Const.expr) c.take.ensures.value)) refl

pub returns-in-Define : goal.returns-in-Define
unfolding after
returns-in-Define c tags h =
    let d = c.args.collected.now.doc in
    collected_more tags c.args.collected.now _ (tag.Define c.in-Define.expr) c.args.tag h c.in-Define.is refl (ap (λ v. after (record d { value = v }) (tag.Define None)) (c.or-in-Define.ensures ∙ ap (option_or c.in-Define.expr) c.take-in-Define.ensures.value)) refl

pub returns-in-Export : goal.returns-in-Export
unfolding after
returns-in-Export c tags h = collected_more tags c.args.collected.now _ tag.Export c.args.tag h c.in-Export.is refl refl refl

pub returns-in-NoCollapse : goal.returns-in-NoCollapse
unfolding after
returns-in-NoCollapse c tags h = collected_more tags c.args.collected.now _ tag.NoCollapse c.args.tag h c.in-NoCollapse.is refl refl refl

pub returns-in-Licence : goal.returns-in-Licence
unfolding after
returns-in-Licence c tags h = collected_more tags c.args.collected.now _ tag.Licence c.args.tag h c.in-Licence.is refl refl refl

pub returns-in_ok-push-in-Implements : goal.returns-in_ok-push-in-Implements
unfolding after added
returns-in_ok-push-in-Implements c tags h =
    let d = c.args.collected.now.doc in
    collected_more tags c.args.collected.now _ (tag.Implements c.in-Implements.name) c.args.tag h c.in-Implements.is refl (ap (λ v. record d { implements = v }) c.in_ok-push-in-Implements.ensures.ok) refl

pub returns-in_ok-insert-in-Param : goal.returns-in_ok-insert-in-Param
returns-in_ok-insert-in-Param c tags h = collected_param tags c.args.collected.now _ c.in-Param.param c.args.tag h c.in-Param.is refl c.in_ok-insert-in-Param.ensures
