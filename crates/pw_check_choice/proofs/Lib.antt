mod BranchLaws
