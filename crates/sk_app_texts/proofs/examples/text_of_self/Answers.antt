use Rattle.sk_app_texts.proofs.Computed.{self_sketch, self_summary}
use Rattle.sk_app_texts.proofs.examples.text_of_self.Goals as goal

pub returns : goal.returns
returns c = record { sketch = self_sketch; summary = self_summary }
