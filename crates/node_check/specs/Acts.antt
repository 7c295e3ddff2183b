-- The acts of the code as acts of the node.
use Rattle.node_machine.specs.Node.{Answer, Common, NodeAct}
use Rattle.node_check.specs.declared.acts.NodeAct.{NodeAct as ActValue}
use Rattle.node_check.specs.declared.acts.NodeAct.TheVariants as value

abbrev pub node_act : ActValue → NodeAct
node_act (value.Common a) = Common a
node_act (value.Answer p place) = Answer p place
