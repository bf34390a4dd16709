mod WordLaws
mod CallLaws
mod EndLaws
mod JudgeLaws
