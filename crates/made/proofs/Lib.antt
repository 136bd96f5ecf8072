mod Or
